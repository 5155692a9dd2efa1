-- A left error that is not the one of a wanted Bool stays the answer. Assumes nothing.
use Prim.Native.Nat.{ℕ}
use mathlib.Core.Path.{◌≡◌, refl}
use mathlib.Core.List.{List, [], ◌∷◌}
use types.Run.{OneOf}
use denote.Enum.Declared.{tag_of}
use Rattle.rooms.proofs.Variants.{no-tag}
use Rattle.machine.specs.declared.outcome.Used.{Used}
use Rattle.machine.specs.declared.outcome.Error.{Error}
use Rattle.machine.specs.declared.outcome.Outcome.TheVariants as Outcome
use Rattle.machine.specs.Logic.{left_error}
use Rattle.machine.specs.contracts.outcome.Error as ErrorType

-- the variants but BoolWanted
abbrev others : List ℕ
others = 0 ∷ 2 ∷ 3 ∷ 4 ∷ 5 ∷ 6 ∷ 7 ∷ 8 ∷ 9 ∷ 10 ∷ []

pub left-stays : (p : ℕ) (u : Used) (e : Error) (q : ℕ) → OneOf others (tag_of ErrorType.the_type e) → Outcome.Error e q u ≡ left_error p u e q
left-stays p u Error.UndeclaredReference q h = refl
left-stays p u Error.BoolWanted q h = absurd (no-tag others 1 refl h)
left-stays p u Error.NoOverload q h = refl
left-stays p u Error.FunctionError q h = refl
left-stays p u Error.NoSuchKey q h = refl
left-stays p u (Error.Arithmetic e) q h = refl
left-stays p u Error.DuplicateKey q h = refl
left-stays p u Error.IndexOutOfBounds q h = refl
left-stays p u Error.UnsupportedKeyType q h = refl
left-stays p u Error.Unordered q h = refl
left-stays p u Error.IterableWanted q h = refl
