-- What is put into a state of the right length. Assumes nothing.
use Prim.Native.Nat.{ℕ}
use mathlib.Core.Path.{◌≡◌, refl}
use mathlib.Core.List.{List}
use lib.ListN.{length}
use borrow.Author.Tests.{eq-eqb}
use Rattle.bindings_sound.specs.declared.Bindings.{Bindings}
use Rattle.board_state.specs.State.{state_of, state_put}

pub put_whole : (w : List ℕ) (b : Bindings) → length w ≡ 259 → state_put w b ≡ state_of b
unfolding state_put
put_whole w b h = rw (eq-eqb (length w) 259 h) refl
