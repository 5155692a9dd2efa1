-- Bindings that a rule does not name: over a table and rooms of bindings, of whatever sizes, they change neither its answer nor a count nor
-- what the evaluation rooms hold. Also that bringing in a binding leaves every other name as it was.
-- Rests on the agreement of scopes and on BoundValues. Assumes nothing.
use Prim.Native.Nat.{ℕ}
use mathlib.Core.Path.{◌≡◌, refl, sym, ◌∙◌, ap, subst}
use mathlib.Core.List.{List, [], ◌∷◌, ◌++◌}
use Rattle.std.specs.Prelude.{Some}
use mathlib.Core.Bool.{Bool, true, false, cond}
use lib.Dec.{T, eqb, eqb→eq}
use Rattle.meaning.specs.Limits.{Counts, cut}
use Rattle.meaning.specs.declared.refusal.Reason.{Reason}
use Rattle.meaning.specs.Value.{Value}
use Rattle.meaning.specs.Expr.{Expr}
use Rattle.meaning.specs.Comprehension.{Scope, empty_scope, store}
use Rattle.meaning.specs.Heads.{Got, got, refused}
use Rattle.meaning.specs.Table.{read_table}
use Rattle.meaning.specs.Bindings.{BindingRoom, empty_room, bound_in, scope_of, bring}
use Rattle.meaning.specs.Answer.{answer_read, answer_of}
use Rattle.meaning_laws.specs.Names.{Names, Agree, Absent}
use Rattle.meaning_laws.specs.Agreement.{SameAnswers, NoneNamed}
use Rattle.meaning_laws.proofs.Agreement.{same_answer}
use Rattle.meaning_laws.proofs.BoundValues.{brought-value}

-- ---- bringing in a binding

store_other : (s : Scope) (number : ℕ) (v : Value) (n : ℕ) → (n ≡ number → ⊥) → store s number v n ≡ s n
unfolding store
store_other s number v n other = go (eqb n number) (λ same. other (eqb→eq n number same))
  where
    go : (b : Bool) → (T b → ⊥) → cond b (Some v) (s n) ≡ s n
    go true never = absurd (never tt)
    go false never = refl

-- Every name but that of the new binding keeps its value, or stays absent.
pub others-kept : (lent_cells lent_bytes : ℕ) (room : BindingRoom) (number : ℕ) (table text : List ℕ) (more : BindingRoom)
    → bring lent_cells lent_bytes room number table text ≡ got more → (n : ℕ) → (n ≡ number → ⊥) → scope_of more n ≡ scope_of room n
unfolding scope_of bound_in
others-kept lent_cells lent_bytes room number table text more accepted n other =
    let b = brought-value lent_cells lent_bytes room number table text more accepted in
    ap (λ (r : BindingRoom). scope_of r n) b.becomes ∙ store_other (bound_in room.bound) number b.held n other

-- ---- any table

read_same : (limits : Counts) (s t : Scope) (g : Got Expr) → ((e : Expr) → g ≡ got e → Agree (Names e) s t)
    → answer_read limits s g ≡ answer_read limits t g
unfolding answer_read
read_same limits s t (got e) h = same_answer limits e s t (h e refl)
read_same limits s t (refused why p) h = refl

-- Whatever the table holds: rooms that agree on the names of the rule that it spells, if it spells one, give one answer.
pub same-over-rooms : (table text : List ℕ) (room other : BindingRoom)
    → ((e : Expr) → read_table table text ≡ got e → Agree (Names e) (scope_of room) (scope_of other)) → SameAnswers table text room other
unfolding answer_of
same-over-rooms table text room other h lent = read_same (cut lent) (scope_of room) (scope_of other) (read_table table text) h

-- A table that is refused is refused alike, whatever is bound and whatever is lent.
pub refused-alike : (table text : List ℕ) (why : Reason) (place : ℕ) → read_table table text ≡ refused why place
    → (room other : BindingRoom) (lent otherwise : Counts) → answer_of table text room lent ≡ answer_of table text other otherwise
unfolding answer_of answer_read
refused-alike table text why place h room other lent otherwise = rw h

-- How much of a room is used cannot be seen: only what is bound counts.
pub fullness-unseen : (table text : List ℕ) (room other : BindingRoom) → room.bound ≡ other.bound → SameAnswers table text room other
unfolding answer_of scope_of
fullness-unseen table text room other h lent = rw h

-- ---- a table that spells the rule e

extra-unseen : (e : Expr) (extra bound : List (ℕ × Value)) → NoneNamed e extra
    → (n : ℕ) → Names e n → bound_in (extra ++ bound) n ≡ bound_in bound n
unfolding NoneNamed bound_in
extra-unseen e [] bound h n i = refl
extra-unseen e (b ∷ extra) bound h n i =
    store_other (bound_in (extra ++ bound)) b.0 b.1 n (λ same. h.0 (subst (Names e) same i)) ∙ extra-unseen e extra bound h.1 n i

module _ (table text : List ℕ) (e : Expr) (spells : read_table table text ≡ got e) where
  -- Rooms that hold the same value, or both none, under every name that stands in a name record of the rule give one answer.
  pub same-where-named : (room other : BindingRoom) → ((n : ℕ) → Names e n → scope_of room n ≡ scope_of other n) → SameAnswers table text room other
  unfolding answer_of answer_read
  same-where-named room other h lent = rw spells (same_answer (cut lent) e (scope_of room) (scope_of other) h)

  -- What a rule does not name cannot change its answer or its counts: bringing in one more binding, under a name that stands in no name
  -- record of the rule, changes nothing.
  pub one-more-unnamed : (lent_cells lent_bytes : ℕ) (room : BindingRoom) (number : ℕ) (its_table its_text : List ℕ) (more : BindingRoom)
      → bring lent_cells lent_bytes room number its_table its_text ≡ got more → (Names e number → ⊥) → SameAnswers table text room more
  one-more-unnamed lent_cells lent_bytes room number its_table its_text more accepted unnamed =
      same-where-named room more
      (λ n i. sym (others-kept lent_cells lent_bytes room number its_table its_text more accepted n (λ same. unnamed (subst (Names e) same i))))

  -- Nor does any number of such bindings.
  pub many-more-unnamed : (room more : BindingRoom) (extra : List (ℕ × Value)) → more.bound ≡ extra ++ room.bound → NoneNamed e extra
      → SameAnswers table text room more
  unfolding scope_of
  many-more-unnamed room more extra larger unnamed =
      same-where-named room more (λ n i. sym (ap (λ bs. bound_in bs n) larger ∙ extra-unseen e extra room.bound unnamed n i))

  -- Two rooms that bind none of the rule's names, whatever other names they bind, give one answer.
  pub none-of-its-names : (room other : BindingRoom) → Absent (Names e) (scope_of room) → Absent (Names e) (scope_of other)
      → SameAnswers table text room other
  none-of-its-names room other h k = same-where-named room other (λ n i. h n i ∙ sym (k n i))

  -- Emptying such a room changes nothing.
  pub emptying-unseen : (room : BindingRoom) → Absent (Names e) (scope_of room) → SameAnswers table text room empty_room
  unfolding scope_of bound_in empty_scope
  emptying-unseen room h = none-of-its-names room empty_room h (λ n i. refl)

  -- A rule without name records has one answer over all rooms.
  pub nothing-named : ((n : ℕ) → Names e n → ⊥) → (room other : BindingRoom) → SameAnswers table text room other
  nothing-named unnamed room other = same-where-named room other (λ n i. absurd (unnamed n i))
