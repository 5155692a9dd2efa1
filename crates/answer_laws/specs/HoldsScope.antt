-- A binding room that holds what a scope of the definition has.
use Rattle.std.specs.Prelude.{ℕ, ◌≡◌, List, length}
use Rattle.meaning.specs.Limits.{names}
use Rattle.meaning.specs.Comprehension.{Scope}
use Rattle.bindings_sound.specs.declared.Bindings.{Bindings}
use Rattle.std.specs.Prelude.{Ok}
use Rattle.bindings_sound.specs.Sound.{sound_of}
use Rattle.bindings_sound.specs.Held.{held_scope}

-- it is sound, and each name has in it what it has in the scope
pub record HoldsScope (words text : List ℕ) (b : Bindings) (s : Scope) : Type 0 where
  pub slots : length b.scope.slots ≡ names
  pub sound : sound_of words text b ≡ Ok tt
  pub scope : (n : ℕ) → held_scope words text b n ≡ s n
