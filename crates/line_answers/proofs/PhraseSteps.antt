-- What is put for the parts of a line, piece by piece, as the functions put it. Assumes nothing.
use Prim.Native.Nat.{ℕ}
use mathlib.Core.Path.{◌≡◌, ap, ◌∙◌}
use mathlib.Core.List.{List, ◌++◌}
use Rattle.meaning.specs.Limits.{Counts}
use Rattle.line_pieces.specs.Page.{Page, puts}
use Rattle.line_pieces.specs.Spelled.{ascii, decimal}
use Rattle.line_pieces.proofs.Putting.{puts_joined}
use Rattle.line_answers.specs.Written.{placed, counted}

three-put : (s t u : List ℕ) (p : Page) → puts (s ++ t ++ u) p ≡ puts u (puts t (puts s p))
three-put s t u p = puts_joined (s ++ t) u p ∙ ap (puts u) (puts_joined s t p)

pub counted_put : (c : Counts) (p : Page) → puts (counted c) p ≡ puts (decimal c.bytes) (puts (ascii " bytes ") (puts (decimal c.cells) (puts (ascii " cells ") (puts (decimal c.steps) (puts (ascii " steps ") p)))))
unfolding counted
counted_put c p =
    three-put (ascii " steps " ++ decimal c.steps ++ ascii " cells " ++ decimal c.cells) (ascii " bytes ") (decimal c.bytes) p
    ∙ ap (λ q. puts (decimal c.bytes) (puts (ascii " bytes ") q)) (three-put (ascii " steps " ++ decimal c.steps) (ascii " cells ") (decimal c.cells) p)
    ∙ ap (λ q. puts (decimal c.bytes) (puts (ascii " bytes ") (puts (decimal c.cells) (puts (ascii " cells ") q)))) (puts_joined (ascii " steps ") (decimal c.steps) p)

pub placed_put : (n place : ℕ) (p : Page) → puts (placed n place) p ≡ puts (decimal place) (puts (ascii " at ") (puts (decimal n) p))
unfolding placed
placed_put n place p = three-put (decimal n) (ascii " at ") (decimal place) p
