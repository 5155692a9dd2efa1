-- What is known of a binding that is accepted; and the ways through `judge_all` and `bring_in`, over plain variables. Assumes nothing.
use Prim.Native.Nat.{ℕ, ◌+◌, ◌≤◌, ◌<◌}
use mathlib.Core.Path.{◌≡◌, refl, ap, ◌∙◌}
use mathlib.Core.List.{List}
use mathlib.Core.Bool.{Bool, true, false, ◌&&◌, cond}
use Rattle.std.specs.Prelude.{None, Some, Result, Ok, Err, IsErrAnd}
use native.Mathlib.Omega.{arith}
use lib.Dec.{leb, ltb}
use lib.ListN.{length}
use borrow.Author.Tests.{leb-true, lt-ltb, le-ltb, ltb-true}
use Rattle.meaning.specs.Errors.{refusal_at}
use Rattle.meaning.specs.declared.refusal.Reason.TheVariants.{UnsoundBinding, BindingRoomFull, WrongField, NameBound, TableLength}
use Rattle.meaning.specs.Value as Meaning
use Rattle.meaning.specs.Expr.{Expr}
use Rattle.meaning.specs.Kinds.{name_of}
use Rattle.meaning.specs.Heads.{Got, got, refused, ◌>>=◌, ◌>>◌, demand, or_refuse, start}
use Rattle.meaning.specs.Table.{read_table, root_at, word_bytes}
use Rattle.meaning.specs.Bindings.{cells_of, bytes_of}
use Rattle.meaning.specs.Spelling.{Literal, literal_of, literal_nesting, spelled, spelled_root}
use Rattle.meaning_laws.specs.Each.{Reads}
use Rattle.meaning_laws.proofs.Fine.{Perhaps}
use Rattle.meaning_laws.proofs.Reading.{reads-got, reads-refused, reads-bind, reads-demand, reads-or_refuse, reads-itself, was_read}
use Rattle.meaning.specs.declared.refusal.Refusal.{Refusal}
use Rattle.table_check.specs.Check.{verdict, check_of}
use Rattle.table_check.specs.Records.{expr_of, part_of, Sound, SoundPart}
use Rattle.table_check.proofs.Accepted as table
use Rattle.table_check.proofs.Opened.{both_of}
use Rattle.rooms.specs.declared.value.Value.{Value}
use Rattle.rooms.specs.declared.scope.Scope.{Scope}
use Rattle.rooms_taking.specs.Taking.{cell_room, text_room}
use Rattle.rooms.specs.Scope.{slot_of, stored}
use Rattle.bindings_sound.specs.declared.Bindings.{Bindings}
use Rattle.bindings_sound.specs.Fits.{is_absent}
use Rattle.bindings_sound.specs.Sound.{sound_of, if_sound}
use Rattle.bindings_literals.specs.Literals.{literal_in, part_literal}
use Rattle.bindings_literals.specs.Judging.{cells_for, bytes_for}
use Rattle.bindings_literals.specs.Laying.{Room, room, laid}
use Rattle.bindings.specs.Bringing.{literal_for, accepted, said, Outcome, bound, after, outcome_of}
use Rattle.bindings_literals.proofs.PartLaws.{bare-part}
use Rattle.bindings_literals.proofs.SpelledLaws.{literal-in, Spells, spelled-spells, spells-cells, spells-bytes}

-- ---- a table that is read

table-long : (t x : List ℕ) → Reads (λ e. length t ≤ 16384) (read_table t x)
unfolding read_table
table-long t x =
    reads-demand (leb 1 (length t) && leb (length t) 16384) TableLength start
    (λ d. all-long (root_at word_bytes t x start) (leb-true (length t) 16384 (both_of (leb 1 (length t)) (leb (length t) 16384) d).1))
  where
    all-long : (g : Got Expr) → length t ≤ 16384 → Reads (λ e. length t ≤ 16384) g
    all-long (got e) h = reads-got e h
    all-long (refused r p) h = reads-refused

pub record Read (t x : List ℕ) : Type 0 where
  pub root : Sound t x 0
  pub long : length t ≤ 16384
  pub is : read_table t x ≡ got (expr_of t x 0)

pub checked-read : (t x : List ℕ) → check_of t x ≡ Ok tt → Read t x
checked-read t x c = let a = table.accepted t x c in record { root = a.root; long = was_read (table-long t x) a.is; is = a.is }

read-read : (t x : List ℕ) (e : Expr) → read_table t x ≡ got e → Read t x
unfolding check_of
read-read t x e h = checked-read t x (rw h)

-- ---- an accepted binding

pub record Fits (w t : List ℕ) (b : Bindings) (name : ℕ) (table text : List ℕ) (l : Literal) : Type 0 where
  pub sound : sound_of w t b ≡ Ok tt
  pub named : name < 128
  pub free : is_absent (slot_of b.scope name) ≡ true
  pub read : Read table text
  pub literals : literal_of (expr_of table text 0) ≡ got l
  pub is : literal_in (expr_of table text 0) ≡ l
  pub value : Meaning.Value
  pub spells : spelled_root l ≡ got value
  pub spelt : Spells l value
  pub nests : literal_nesting l ≤ 32
  pub cells : b.cells + cells_for l ≤ cell_room w
  pub bytes : b.bytes + bytes_for l ≤ text_room t

named-is : (n : ℕ) → Perhaps (λ m. (m ≡ n) × (n < 128)) (name_of n)
unfolding name_of
named-is n = by-test (ltb n 128) refl
  where
    by-test : (b : Bool) → ltb n 128 ≡ b → Perhaps (λ m. (m ≡ n) × (n < 128)) (cond b (Some n) None)
    by-test true e = (refl, ltb-true n 128 e)
    by-test false e = tt

root-read : (l : Literal) → Reads (λ v. (spelled l ≡ got v) × (literal_nesting l ≤ 32)) (spelled_root l)
unfolding spelled_root
root-read l = reads-demand _ UnsoundBinding _ (λ d. kept (spelled l) refl (leb-true (literal_nesting l) 32 d))
  where
    kept : (g : Got Meaning.Value) → spelled l ≡ g → literal_nesting l ≤ 32 → Reads (λ v. (spelled l ≡ got v) × (literal_nesting l ≤ 32)) g
    kept (got v) e h = reads-got v (e, h)
    kept (refused r p) e h = reads-refused

fits_by : (w t : List ℕ) (b : Bindings) (name : ℕ) (table text : List ℕ) (s : Result (Unit {0}) ℕ) → sound_of w t b ≡ s →
    Reads (λ l. Fits w t b name table text l) (if_sound s (◌>>=◌ (or_refuse WrongField start (name_of name)) (λ n. ◌>>◌ (demand (is_absent (slot_of b.scope n)) NameBound start) (◌>>=◌ (read_table table text) (λ e. literal_for (cell_room w) (text_room t) b.cells b.bytes e)))))
unfolding literal_for
fits_by w t b name table text (Err p) s = reads-refused
fits_by w t b name table text (Ok u) s =
    reads-bind (reads-or_refuse WrongField start (name_of name) (named-is name))
    (λ n i. reads-demand (is_absent (slot_of b.scope n)) NameBound start
    (λ f. reads-bind (reads-itself (read_table table text))
    (λ e r. reads-bind (reads-itself (literal_of e))
    (λ l m. reads-bind (reads-itself (spelled_root l))
    (λ v u. reads-demand (leb (b.cells + cells_of v) (cell_room w) && leb (b.bytes + bytes_of v) (text_room t)) BindingRoomFull start
    (λ d. let q = read-read table text e r in
    let same : e ≡ expr_of table text 0 = cc in
    let k = both_of (leb (b.cells + cells_of v) (cell_room w)) (leb (b.bytes + bytes_of v) (text_room t)) d in
    let g = was_read (root-read l) u in
    let sp = was_read (spelled-spells l) g.0 in
    reads-got l (record {
      sound = s;
      named = i.1;
      free = rw i.0 at f;
      read = q;
      literals = rw same at m;
      is = rw same at (was_read (literal-in e) m);
      value = v;
      spells = u;
      spelt = sp;
      nests = g.1;
      cells = rw (spells-cells sp) at (leb-true (b.cells + cells_of v) (cell_room w) k.0);
      bytes = rw (spells-bytes sp) at (leb-true (b.bytes + bytes_of v) (text_room t) k.1);
    })))))))

module _ (w t : List ℕ) (b : Bindings) (name : ℕ) (table text : List ℕ) where
  pub accepted-fits : Reads (λ l. Fits w t b name table text l) (accepted w t b name table text)
  unfolding accepted
  accepted-fits = fits_by w t b name table text (sound_of w t b) refl

  abbrev Says : Result (Unit {0}) Refusal → Type 0
  Says a = a ≡ said (accepted w t b name table text)

  pub all-unsound : (p : ℕ) → sound_of w t b ≡ Err p → Says (Err (refusal_at UnsoundBinding p))
  unfolding accepted
  all-unsound p e = rw e

  module _ (s : sound_of w t b ≡ Ok tt) where
    pub all-unnamed : 128 ≤ name → Says (Err (refusal_at WrongField 0))
    unfolding accepted name_of or_refuse ◌>>=◌
    all-unnamed h = rw (s, le-ltb name 128 h)

    module _ (h : name < 128) (v : Value) (e : v ≡ slot_of b.scope name) where
      pub all-bound : is_absent v ≡ false → Says (Err (refusal_at NameBound 0))
      unfolding accepted name_of or_refuse ◌>>=◌ ◌>>◌ demand
      all-bound f = rw (s, lt-ltb name 128 h, ← e, f)

      module _ (f : is_absent v ≡ true) where
        go_on : Says (said (◌>>=◌ (read_table table text) (λ x. literal_for (cell_room w) (text_room t) b.cells b.bytes x)))
        unfolding accepted name_of or_refuse ◌>>=◌ ◌>>◌ demand
        go_on = rw (s, lt-ltb name 128 h, ← e, f)

        refused-on : (g : Got Expr) (k : Expr → Got Literal) (f : Refusal) → verdict g ≡ Err f → Err f ≡ said (◌>>=◌ g k)
        unfolding ◌>>=◌
        refused-on (got x) k f i = let z : ◌≡◌ {A = ℕ} 0 1 = cc in absurd (omega arith)
        refused-on (refused r q) k f i = let a : refusal_at r q ≡ f = cc in rw (← a)

        pub all-unread : (f : Refusal) → check_of table text ≡ Err f → Says (Err f)
        unfolding check_of
        all-unread f i = refused-on (read_table table text) _ f i ∙ go_on

        pub all_read : check_of table text ≡ Ok tt → (rc rb : ℕ) → rc ≡ cell_room w → rb ≡ text_room t → {a : Result (Unit {0}) Refusal} →
            a ≡ said (literal_for rc rb b.cells b.bytes (expr_of table text 0)) → Says a
        unfolding ◌>>=◌
        all_read i rc rb m n k =
            let q = checked-read table text i in
            k ∙ ((rw (m, n)) ∙ (rw q.is at go_on))

-- ---- the outcome

answered : (w t : List ℕ) (b : Bindings) (name : ℕ) (g : Got Literal) (f : Refusal) → Err f ≡ said g →
    ◌≡◌ {A = Outcome} (record { answer = Err f; bindings = b; words = w; text = t }) (after w t b name g)
answered w t b name (got l) f e = let z : ◌≡◌ {A = ℕ} 0 1 = cc in absurd (omega arith)
answered w t b name (refused r q) f e = let h : f ≡ refusal_at r q = cc in rw h

-- what a `?` hands on is the refusal that it met
pub handed_on : (a : Result (Unit {0}) Refusal) (f : Refusal) → IsErrAnd a (λ g. g ≡ f) → a ≡ Err f
handed_on (Ok u) f i = absurd i
handed_on (Err g) f i = ap Err i

pub brought-refused : (w t : List ℕ) (b : Bindings) (name : ℕ) (table text : List ℕ) (f : Refusal) (a : Result (Unit {0}) Refusal) → IsErrAnd a (λ g. g ≡ f) →
    Err f ≡ said (accepted w t b name table text) →
    ◌≡◌ {A = Outcome} (record { answer = a; bindings = b; words = w; text = t }) (outcome_of w t b name table text)
unfolding outcome_of
brought-refused w t b name table text f a i e = rw (handed_on a f i) (answered w t b name (accepted w t b name table text) f e)

done-got : {A : Type 0} (g : Got A) → Ok tt ≡ said g → (a : A) × (g ≡ got a)
done-got (got a) e = (a, refl)
done-got (refused r p) e = let z : ◌≡◌ {A = ℕ} 0 1 = cc in absurd (omega arith)

module _ (w t : List ℕ) (b : Bindings) (name : ℕ) (table text : List ℕ) (d : Ok tt ≡ said (accepted w t b name table text)) where
  found : (l : Literal) × (accepted w t b name table text ≡ got l)
  found = done-got (accepted w t b name table text) d

  fit : Fits w t b name table text found.0
  fit = was_read accepted-fits' found.1
    where
      accepted-fits' : Reads (λ l. Fits w t b name table text l) (accepted w t b name table text)
      accepted-fits' = accepted-fits w t b name table text

  root_is : part_literal (part_of table text 0) ≡ found.0
  unfolding part_literal
  root_is = ap part_literal (bare-part table text 0 fit.read.root).1 ∙ fit.is

  pub brought-asks : SoundPart table text 0 × (length table ≤ 16384) × (literal_nesting (part_literal (part_of table text 0)) ≤ 32) ×
      (b.cells + cells_for (part_literal (part_of table text 0)) ≤ 4096) × (b.bytes + bytes_for (part_literal (part_of table text 0)) ≤ 16384)
  brought-asks =
      rw root_is
      ((bare-part table text 0 fit.read.root).0, fit.read.long, fit.nests, omega (arith, fit.cells), omega (arith, fit.bytes))

  -- what was laid down in the room, and is left in the lent memory
  pub brought-done : {v : Value} {r : Room} {c : Scope} {words' text' : List ℕ} →
      ◌≡◌ {A = Value × Room} (v, r) (laid (part_literal (part_of table text 0)) (room w t b.cells b.bytes)) → c ≡ stored b.scope name v → words' ≡ r.words → text' ≡ r.text →
      ◌≡◌ {A = Outcome} (record { answer = Ok tt; bindings = record { scope = c; cells = r.cells; bytes = r.bytes }; words = words'; text = text' })
      (outcome_of w t b name table text)
  unfolding outcome_of
  brought-done {v} {r} e s g h =
      let f : ◌≡◌ {A = Value × Room} (v, r) (laid found.0 (room w t b.cells b.bytes)) = rw root_is at e in
      rw (s, g, h, found.1)
      (ap {B = Outcome} (λ (a : Value × Room). record { answer = Ok tt; bindings = bound b name a; words = a.1.words; text = a.1.text }) f)
