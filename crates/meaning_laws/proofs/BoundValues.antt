-- Bringing in a binding, in full: what an accepted one holds under its name, when one is accepted, and why one is refused, in the order in
-- which that is found. And what an emptied room is. Rests on SpelledRuns and SpelledReasons. Assumes nothing.
use Prim.Native.Nat.{ℕ, ◌+◌, ◌≤◌, ◌<◌, min}
use mathlib.Core.Path.{◌≡◌, refl, sym, ◌∙◌, ap, subst}
use mathlib.Core.List.{List}
use Rattle.std.specs.Prelude.{None, Some}
use mathlib.Core.Bool.{Bool, true, false, ◌&&◌, cond}
use native.Mathlib.Omega.{arith}
use lib.Dec.{leb, ltb}
use borrow.Author.Tests.{ltb-true, leb-true, lt-ltb, le-ltb, le-leb, lt-leb, eq-eqb}
use Rattle.meaning.specs.Limits.{names, deepest_value, most_cells, most_bytes}
use Rattle.meaning.specs.Errors.{ErrorAt}
use Rattle.meaning.specs.declared.refusal.Reason.{Reason}
use Rattle.meaning.specs.declared.refusal.Reason.TheVariants.{WrongField, UnsoundBinding, NotALiteral, BindingRoomFull, NameBound}
use Rattle.meaning.specs.Value.{Value, nesting}
use Rattle.meaning.specs.Expr.{Expr, name}
use Rattle.meaning.specs.Run.{value, error, pure, charged, or_fail, placed, here, begin}
use Rattle.meaning.specs.Maps.{is_found}
use Rattle.meaning.specs.Comprehension.{Scope, empty_scope, store}
use Rattle.meaning.specs.Meaning.{run}
use Rattle.meaning.specs.Kinds.{name_of}
use Rattle.meaning.specs.Heads.{Got, got, refused, ◌>>=◌, ◌>>◌, demand, or_refuse, start}
use Rattle.meaning.specs.Table.{read_table}
use Rattle.meaning.specs.Spelling.{Literal, literal_of, literal_nesting, place_of, spelled, spelled_root}
use Rattle.meaning.specs.Bindings.{cells_of, bytes_of, BindingRoom, empty_room, bound_in, scope_of, bring}
use Rattle.meaning_laws.specs.Each.{Reads}
use Rattle.meaning_laws.specs.Brought.{with_binding, Fits, Brought}
use Rattle.meaning_laws.proofs.Reading.{reads-got, reads-refused, reads-bind, reads-demand, reads-itself, was_read}
use Rattle.meaning_laws.proofs.Spelled.{was-not-found}
use Rattle.meaning_laws.proofs.BindingsFormed.{both_true}
use Rattle.meaning_laws.proofs.SpelledReasons.{literal-reason, root-reason, root-refused, root-spells, root-spelled, root-fails}
use Rattle.meaning_laws.proofs.SpelledRuns.{spelling-runs}

store_same : (s : Scope) (n : ℕ) (v : Value) → store s n v n ≡ Some v
unfolding store
store_same s n v = rw (eq-eqb n n refl)

holds-bound : (room : BindingRoom) (number : ℕ) (v : Value) → scope_of (with_binding room number v) number ≡ Some v
unfolding scope_of bound_in
holds-bound room number v = store_same (bound_in room.bound) number v

name-number : (number : ℕ) → Reads (λ n. (n ≡ number) × (number < names)) (or_refuse WrongField start (name_of number))
unfolding name_of or_refuse
name-number number = go (ltb number names) (ltb-true number names)
  where
    go : (b : Bool) → (b ≡ true → number < names) → Reads (λ n. (n ≡ number) × (number < names)) (or_refuse WrongField start (cond b (Some number) None))
    go true h = reads-got _ (refl, h refl)
    go false h = reads-refused

-- ---- the room that is left

abbrev room_test : (lent_cells lent_bytes : ℕ) → BindingRoom → Value → Bool
room_test lent_cells lent_bytes room v =
    leb (room.used_cells + cells_of v) (min lent_cells most_cells) && leb (room.used_bytes + bytes_of v) (min lent_bytes most_bytes)

-- what becomes of the room once the value is known
abbrev room_for : (lent_cells lent_bytes : ℕ) → BindingRoom → ℕ → Value → Got BindingRoom
room_for lent_cells lent_bytes room number v = ◌>>◌ (demand (room_test lent_cells lent_bytes room v) BindingRoomFull start) (got (with_binding room number v))

module _ (lent_cells lent_bytes : ℕ) (room : BindingRoom) (number : ℕ) (v : Value) where
  test_fits : room_test lent_cells lent_bytes room v ≡ true → Fits lent_cells lent_bytes room v
  test_fits h =
      let both = both_true (leb (room.used_cells + cells_of v) (min lent_cells most_cells)) (leb (room.used_bytes + bytes_of v) (min lent_bytes most_bytes)) h in
      (leb-true (room.used_cells + cells_of v) (min lent_cells most_cells) both.0, leb-true (room.used_bytes + bytes_of v) (min lent_bytes most_bytes) both.1)

  enough-room : Fits lent_cells lent_bytes room v → room_for lent_cells lent_bytes room number v ≡ got (with_binding room number v)
  unfolding ◌>>◌ ◌>>=◌ demand
  enough-room h =
      rw (le-leb (room.used_cells + cells_of v) (min lent_cells most_cells) h.0, le-leb (room.used_bytes + bytes_of v) (min lent_bytes most_bytes) h.1)

  no_room : (Fits lent_cells lent_bytes room v → ⊥) → room_for lent_cells lent_bytes room number v ≡ refused BindingRoomFull start
  unfolding ◌>>◌ ◌>>=◌ demand
  no_room h = go (room_test lent_cells lent_bytes room v) (λ test. h (test_fits test))
    where
      go : (b : Bool) → (b ≡ true → ⊥) → ◌>>◌ (demand b BindingRoomFull start) (got (with_binding room number v)) ≡ refused BindingRoomFull start
      go true never = absurd (never refl)
      go false never = refl

-- ---- accepted

module _ (lent_cells lent_bytes : ℕ) (room : BindingRoom) (number : ℕ) (table text : List ℕ) where
  brings : Reads (Brought lent_cells lent_bytes room number table text) (bring lent_cells lent_bytes room number table text)
  unfolding bring
  brings =
      reads-bind (name-number number)
      (λ n f. reads-demand _ _ _
      (λ free. reads-bind (reads-itself (read_table table text))
      (λ e r. reads-bind (reads-itself (literal_of e))
      (λ l m. reads-bind (reads-itself (spelled_root l))
      (λ v s. reads-demand _ _ _
      (λ fit.
      let root = was_read (root-spells l) s in
      reads-got _
      (record {
        rule = e;
        made = l;
        held = v;
        named = f.1;
        free = subst (λ k. scope_of room k ≡ None) f.0 (was-not-found (scope_of room n) free);
        reads = r;
        literals = m;
        spells = s;
        gives = spelling-runs e l m v root.0;
        nests = root.1;
        fits = test_fits lent_cells lent_bytes room number v fit;
        becomes = ap (λ k. with_binding room k v) f.0;
        holds = ap (λ k. scope_of (with_binding room k v) number) f.0 ∙ holds-bound room number v;
      })))))))

  -- An accepted binding holds under its name the value that its table spells, bits and entry order kept: the value that evaluating the table
  -- would give, over whatever bindings.
  pub brought-value : (more : BindingRoom) → bring lent_cells lent_bytes room number table text ≡ got more
      → Brought lent_cells lent_bytes room number table text more
  brought-value more accepted = was_read brings accepted

  -- ---- why one is refused, in the order in which that is found

  -- A number that is no name's is refused first.
  pub wrong_name : names ≤ number → bring lent_cells lent_bytes room number table text ≡ refused WrongField start
  unfolding bring name_of or_refuse ◌>>=◌
  wrong_name h = rw (le-ltb number names h)

  module _ (named : number < names) where
    -- Then a name that is bound already ..
    pub name-bound : (v : Value) → scope_of room number ≡ Some v → bring lent_cells lent_bytes room number table text ≡ refused NameBound start
    unfolding bring name_of or_refuse ◌>>=◌ ◌>>◌ demand is_found
    name-bound v bound = rw (lt-ltb number names named, bound)

    module _ (free : scope_of room number ≡ None) where
      -- .. then a table that reads as no expression, with the reader's refusal ..
      pub unread : (why : Reason) (p : ℕ) → read_table table text ≡ refused why p → bring lent_cells lent_bytes room number table text ≡ refused why p
      unfolding bring name_of or_refuse ◌>>=◌ ◌>>◌ demand is_found
      unread why p reads = rw (lt-ltb number names named, free, reads)

      module _ (e : Expr) (reads : read_table table text ≡ got e) where
        -- .. then one that is not made of literals, lists and maps alone ..
        pub not-literals : (why : Reason) (p : ℕ) → literal_of e ≡ refused why p → bring lent_cells lent_bytes room number table text ≡ refused NotALiteral p
        unfolding bring name_of or_refuse ◌>>=◌ ◌>>◌ demand is_found
        not-literals why p h = rw (lt-ltb number names named, free, reads, h, literal-reason e why p h)

        module _ (l : Literal) (made : literal_of e ≡ got l) where
          at-root : (g : Got Value) → spelled_root l ≡ g → bring lent_cells lent_bytes room number table text ≡ ◌>>=◌ g (room_for lent_cells lent_bytes room number)
          unfolding bring name_of or_refuse ◌>>=◌ ◌>>◌ demand is_found
          at-root g h = rw (lt-ltb number names named, free, reads, made, h)

          -- .. then lists and maps that nest too deep ..
          pub too-deep : deepest_value < literal_nesting l → bring lent_cells lent_bytes room number table text ≡ refused UnsoundBinding (place_of l)
          unfolding ◌>>=◌ ◌>>◌ demand spelled_root
          too-deep h = at-root (refused UnsoundBinding (place_of l)) (rw (lt-leb (literal_nesting l) deepest_value h))

          -- .. then a key that is no key or matches an earlier one, at that key ..
          pub unsound-key : literal_nesting l ≤ deepest_value → (why : Reason) (p : ℕ) → spelled l ≡ refused why p
              → bring lent_cells lent_bytes room number table text ≡ refused UnsoundBinding p
          unfolding ◌>>=◌
          unsound-key h why p k =
              let root = root-refused l h why p k in
              at-root (refused why p) root ∙ ap (λ r. refused r p) (root-reason l why p root)

          -- .. for one of these, then, where evaluation would be an error ..
          pub no_value : (s : Scope) (d : ErrorAt) → (run e s).1 ≡ error d
              → (p : ℕ) × (bring lent_cells lent_bytes room number table text ≡ refused UnsoundBinding p)
          unfolding ◌>>=◌
          no_value s d h = let r = root-fails e l made s d h in (r.0, at-root _ r.1)

          module _ (v : Value) (s : Scope) (gives : (run e s).1 ≡ value v) (nests : nesting v ≤ deepest_value) where
            -- .. and last a value for which too little of the room is left.
            pub room-full : (Fits lent_cells lent_bytes room v → ⊥) → bring lent_cells lent_bytes room number table text ≡ refused BindingRoomFull start
            unfolding ◌>>=◌
            room-full h = at-root (got v) (root-spelled e l made s v gives nests) ∙ no_room lent_cells lent_bytes room number v h

            -- Every other binding is accepted: one under a free name, whose table reads as an expression of literals that evaluates to a value,
            -- nesting no deeper than values may, for which enough of the room is left. It binds that value, and nothing else changes.
            pub accepts : Fits lent_cells lent_bytes room v → bring lent_cells lent_bytes room number table text ≡ got (with_binding room number v)
            unfolding ◌>>=◌
            accepts h = at-root (got v) (root-spelled e l made s v gives nests) ∙ enough-room lent_cells lent_bytes room number v h

  -- So what is accepted, and what becomes of the room then, is exactly this.
  pub brought-accepted : (more : BindingRoom) → Brought lent_cells lent_bytes room number table text more
      → bring lent_cells lent_bytes room number table text ≡ got more
  brought-accepted more b =
      accepts b.named b.free b.rule b.reads b.made b.literals b.held empty_scope (b.gives empty_scope) b.nests b.fits
      ∙ ap got (sym b.becomes)

  -- A rule that names an accepted binding sees its value.
  pub brought-seen : (more : BindingRoom) (b : Brought lent_cells lent_bytes room number table text more) (p : ℕ)
      → (run (name p number) (scope_of more)).1 ≡ value b.held
  unfolding run begin here charged placed or_fail pure
  brought-seen more b p = rw b.holds

-- ---- an emptied room

-- Emptying the room makes every name absent.
pub emptied : (n : ℕ) → scope_of empty_room n ≡ None
unfolding scope_of bound_in empty_scope
emptied n = refl

-- Then all of it serves again: a value that fits the lent room is taken under any name, whatever was bound before.
pub emptied-accepts : (lent_cells lent_bytes number : ℕ) (table text : List ℕ) (e : Expr) (l : Literal) (v : Value) → number < names
    → read_table table text ≡ got e → literal_of e ≡ got l → (run e empty_scope).1 ≡ value v → nesting v ≤ deepest_value
    → cells_of v ≤ min lent_cells most_cells → bytes_of v ≤ min lent_bytes most_bytes
    → bring lent_cells lent_bytes empty_room number table text ≡ got (with_binding empty_room number v)
emptied-accepts lent_cells lent_bytes number table text e l v named reads made gives nests cells bytes =
    accepts lent_cells lent_bytes empty_room number table text named (emptied number) e reads l made v empty_scope gives nests (omega arith, omega arith)
