-- What the rooms hold after a run: below the counts, as many cells and bytes as the counts say.
-- Rests on Exhausted. Assumes nothing.
use Prim.Native.Nat.{suc, ◌+◌}
use mathlib.Core.Path.{◌≡◌, refl, ◌∙◌, ap, subst}
use mathlib.Core.List.{[], ◌∷◌}
use lib.ListN.{length, length-append, length-map, length-replicate}
use Rattle.meaning.specs.Limits.{Counts}
use Rattle.meaning.specs.Value.{Value, Values, nil, cons, count, value_list}
use Rattle.meaning.specs.Run.{step, cells, text, nest, Trace, Eval}
use Rattle.meaning.specs.Limited.{Outcome, value, error, exhausted, limited, holding, cells_built, text_built, rooms_built, cleared, rooms_after}
use Rattle.meaning_laws.specs.Charges.{cells_in, bytes_in, total, counts_of}
use Rattle.meaning_laws.specs.Answers.{Fills}
use Rattle.meaning_laws.proofs.Exhausted.{value-exactly}
use Rattle.meaning_laws.proofs.Fine.{join-count}

pub length-values : (vs : Values) → length (value_list vs) ≡ count vs
unfolding value_list count
length-values nil = refl
length-values (cons v vs) = ap suc (length-values vs)

cells-built : (t : Trace) → count (cells_built t) ≡ cells_in t
unfolding cells_built cells_in count
cells-built [] = refl
cells-built (step ∷ t) = cells-built t
cells-built (cells vs ∷ t) = join-count vs (cells_built t) ∙ ap (count vs +◌) (cells-built t)
cells-built (text s ∷ t) = cells-built t
cells-built (nest d ∷ t) = cells-built t

text-built : (t : Trace) → length (text_built t) ≡ bytes_in t
unfolding text_built bytes_in
text-built [] = refl
text-built (step ∷ t) = text-built t
text-built (cells vs ∷ t) = text-built t
text-built (text s ∷ t) = length-append s (text_built t) ∙ ap (length s +◌) (text-built t)
text-built (nest d ∷ t) = text-built t

built-fills : (t : Trace) → Fills (rooms_built t) (total t)
unfolding rooms_built
built-fills t = record { cells = length-map (value_list (cells_built t)) holding ∙ length-values (cells_built t) ∙ cells-built t; bytes = text-built t }

cleared-fills : (c : Counts) → Fills (cleared c) c
unfolding cleared
cleared-fills c = record { cells = length-replicate c.cells _; bytes = length-replicate c.bytes _ }

-- After a run the rooms hold as many cells and bytes as its counts say, whether it gave a value, an error or was exhausted.
pub rooms-of-run : (limits : Counts) (r : Eval Value) (o : Outcome) → limited limits r ≡ o → Fills (rooms_after r.0 o) (counts_of o)
unfolding rooms_after
rooms-of-run limits r (value v c) e = subst (Fills (rooms_built r.0)) ((value-exactly limits r v c).0 e).2 (built-fills r.0)
rooms-of-run limits r (error v c) e = cleared-fills c
rooms-of-run limits r (exhausted x c) e = cleared-fills c
