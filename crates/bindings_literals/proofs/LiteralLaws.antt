-- The literals of an accepted table: for each kind of record, what the value is that the code makes of it. Assumes nothing.
use Prim.Native.Nat.{ℕ, zero, suc, ◌+◌, ◌^◌, ◌≤◌, ◌<◌}
use mathlib.Core.Path.{◌≡◌, refl, sym, ap, ◌∙◌}
use mathlib.Core.List.{List, []}
use mathlib.Core.Bool.{true, false}
use Rattle.std.specs.Prelude.{Option, None, Some}
use native.Mathlib.Omega.{arith}
use lib.Dec.{eqb}
use lib.ListN.{length, take, drop, get_or, set, length-take, length-drop}
use lib.Seq.{drop-cons}
use borrow.Author.Tests.{ne_eqb}
use mir.Syntax.{w64}
use mir.Val.{to_z}
use Rattle.numbers.specs.declared.double.Double.{Double}
use Rattle.numbers.specs.Double.{bits_of, double_of}
use Rattle.numbers.proofs.DoubleLaws.{bits_back}
use Rattle.meaning.specs.declared.refusal.Reason.TheVariants.{NotALiteral}
use Rattle.meaning.specs.Value.{Scalar, null, bool, int, uint, double, string, bytes, key_in}
use Rattle.meaning.specs.Expr.{literal}
use Rattle.meaning.specs.Kinds.{ExprKind, null_kind, bool_kind, int_kind, uint_kind, double_kind, string_kind, bytes_kind, name_kind, unary_kind, binary_kind, conditional_kind, select_kind, list_kind, map_kind, comprehension_kind, function_kind, Called, to_one, to_none, to_two, numbered, functions}
use Rattle.meaning.specs.Heads.{refused}
use Rattle.meaning.specs.Table.{utf8}
use Rattle.meaning.specs.Bindings.{text_bytes}
use Rattle.meaning.specs.Spelling.{scalar_at, list_at, map_at, Literals, LiteralPairs, literal_of}
use Rattle.table_layout.specs.Layout.{word_at}
use Rattle.table_check.specs.Fits.{is_some}
use Rattle.table_layout.specs.Layout.{long_at}
use Rattle.table_check.specs.Records.{expr_of, call_of, Sound, kind_byte}
use Rattle.table_check.specs.Opened.{Opened}
use Rattle.table_layout.proofs.WordLaws.{long_is}
use Rattle.table_check.proofs.FieldLaws.{span-inside}
use Rattle.table_check.proofs.Opened.{opened}
use Rattle.table_check.proofs.Parts.{sound-kind}
use Rattle.rooms.specs.declared.value.Value.{Value}
use Rattle.rooms.specs.declared.value.TextSpace.TheVariants as Text
use Rattle.rooms.specs.Value.{plain_of, double_value, is_key}
use Rattle.rooms_comparison.specs.Seen.{seen_of, seen_scalar}
use Rattle.bindings_sound.specs.Fits.{is_absent}
use Rattle.rooms_taking.specs.Taking.{pasted}
use Rattle.bindings_literals.specs.Literals.{literal_in, literal_value, text_length, text_first, moved_to}
use Rattle.bindings_literals.specs.Laying.{Room, room, typed, laid_scalar}
use Rattle.rooms.specs.Spans.{span}

pub no-literal : (t : List ℕ) (p n : ℕ) → n ≡ get_or t p 0 → (n ≡ 0 → ⊥) → (n ≡ 1 → ⊥) → (n ≡ 2 → ⊥) → (n ≡ 3 → ⊥) → (n ≡ 4 → ⊥) → (n ≡ 5 → ⊥) →
    (n ≡ 6 → ⊥) → Value.Absent ≡ literal_value t p
unfolding literal_value
no-literal t p n e a b c d f g h =
    rw (← e, ne_eqb n 0 a, ne_eqb n 1 b, ne_eqb n 2 c, ne_eqb n 3 d, ne_eqb n 4 f, ne_eqb n 5 g, ne_eqb n 6 h)

-- ---- what a value shows of a scalar

-- the bytes of a span, copied one by one
pasted-typed : (x t : List ℕ) (o to n : ℕ) → o + n ≤ length x → typed t to (take n (drop o x)) ≡ pasted x [] Text.Literal t o to n
unfolding typed pasted
pasted-typed x t o to zero h = refl
pasted-typed x t o to (suc n) h = rw (drop-cons x o 0 (omega arith)) (pasted-typed x (set t to (get_or x o 0)) (suc o) (suc to) n (omega arith))

-- what is laid down of a literal's value
abbrev pub Moved : List ℕ → Value → Room → Value × Room
Moved x v r = (moved_to r.bytes v, room r.words (pasted x [] Text.Literal r.text (text_first v) r.bytes (text_length v)) r.cells (r.bytes + text_length v))

pub record Shows (x : List ℕ) (s : Scalar) (v : Value) : Type 0 where
  pub seen : seen_of x [] [] (plain_of v) ≡ seen_scalar s
  pub key : is_key v ≡ is_some (key_in s)
  pub present : is_absent v ≡ false
  pub long : text_length v ≡ text_bytes s
  pub laid : (r : Room) → laid_scalar s r ≡ Moved x v r

no-more-bytes : (x : List ℕ) (v w : Value) (r : Room) → text_length v ≡ 0 → moved_to r.bytes v ≡ w → ◌≡◌ {A = Value × Room} (w, r) (Moved x v r)
unfolding pasted
no-more-bytes x v w r e f = rw (e, f) (ap (λ n. (w, room r.words r.text r.cells n)) (none_more r.bytes))
  where
    none_more : (n : ℕ) → n ≡ n + 0
    none_more n = omega arith

moved-double : (n : ℕ) (d : Double) → (moved_to n (double_value d) ≡ double_value d) × (text_length (double_value d) ≡ 0)
moved-double n (Double.Plain f) = (refl, refl)
moved-double n (Double.Nan b) = (refl, refl)

seen-double : (x : List ℕ) (d : Double) →
    (seen_of x [] [] (plain_of (double_value d)) ≡ seen_scalar (double (bits_of d))) × (is_key (double_value d) ≡ false) × (is_absent (double_value d) ≡ false)
seen-double x (Double.Plain f) = (refl, refl, refl)
seen-double x (Double.Nan b) = (refl, refl, refl)

shows-double : (x : List ℕ) (b : ℕ) → b < 2 ^ 64 → Shows x (double b) (double_value (double_of b))
unfolding key_in text_bytes laid_scalar
shows-double x b h =
    let s = seen-double x (double_of b) in
    record {
      seen = s.0 ∙ ap (λ n. seen_scalar (double n)) (bits_back b h);
      key = s.1;
      present = s.2;
      long = (moved-double 0 (double_of b)).1;
      laid = λ r. no-more-bytes x (double_value (double_of b)) (double_value (double_of b)) r (moved-double 0 (double_of b)).1 (moved-double r.bytes (double_of b)).0;
    }

shows-text : (x t : List ℕ) (o to n : ℕ) → o + n ≤ length x →
    (typed t to (take n (drop o x)) ≡ pasted x [] Text.Literal t o to n) × (length (take n (drop o x)) ≡ n)
shows-text x t o to n h = (pasted-typed x t o to n h, simp (length-take, length-drop) (omega arith))

shows-string : (x : List ℕ) (o n : ℕ) → o + n ≤ length x → Shows x (string (take n (drop o x))) (Value.String (span Text.Literal o n))
unfolding key_in text_bytes laid_scalar
shows-string x o n h =
    record {
      seen = refl;
      key = refl;
      present = refl;
      long = sym (shows-text x [] o 0 n h).1;
      laid = λ r. let s = shows-text x r.text o r.bytes n h in rw (s.0, s.1);
    }

shows-bytes : (x : List ℕ) (o n : ℕ) → o + n ≤ length x → Shows x (bytes (take n (drop o x))) (Value.Bytes (span Text.Literal o n))
unfolding key_in text_bytes laid_scalar
shows-bytes x o n h =
    record {
      seen = refl;
      key = refl;
      present = refl;
      long = sym (shows-text x [] o 0 n h).1;
      laid = λ r. let s = shows-text x r.text o r.bytes n h in rw (s.0, s.1);
    }

some-span : (o : Option (List ℕ)) → is_some (utf8 o) ≡ true → is_some o ≡ true
unfolding utf8
some-span None e = e
some-span (Some s) e = refl

-- ---- the kinds of records

-- a literal; a List, a Map; anything else
pub data View (t x : List ℕ) (p : ℕ) : Type 0 where
  a_scalar : (s : Scalar) → expr_of t x p ≡ literal p s → Shows x s (literal_value t p) → View t x p
  a_list : get_or t p 0 ≡ 12 → literal_value t p ≡ Value.Absent → (ls : Literals) → literal_in (expr_of t x p) ≡ list_at p ls → View t x p
  a_map : get_or t p 0 ≡ 13 → literal_value t p ≡ Value.Absent → (ls : LiteralPairs) → literal_in (expr_of t x p) ≡ map_at p ls → View t x p
  another : literal_value t p ≡ Value.Absent → literal_in (expr_of t x p) ≡ scalar_at p null → literal_of (expr_of t x p) ≡ refused NotALiteral p → View t x p

module _ (t x : List ℕ) (p : ℕ) (small : (i : ℕ) → get_or t i 0 < 256) (s : Sound t x p) where
  long-small : (i : ℕ) → long_at t i < 2 ^ 64
  long-small i =
      omega (
        arith,
        long_is t i,
        small i,
        small (i + 1),
        small (i + 2),
        small (i + 3),
        small (i + 4),
        small (i + 5),
        small (i + 6),
        small (i + 7),
      )

  -- a record that is no literal and no container
  module _ (k : ExprKind) (b : get_or t p 0 ≡ kind_byte k) where
    o : Opened t x p k
    o = opened t x p k b s

    shown : (v : Value) (y : Scalar) → literal_value t p ≡ v → expr_of t x p ≡ literal p y → Shows x y v → View t x p
    shown v y e f h = a_scalar y f (rw e h)

  called : (c : Option Called) → (literal_in (call_of t x p c) ≡ scalar_at p null) × (literal_of (call_of t x p c) ≡ refused NotALiteral p)
  unfolding literal_in literal_of
  called None = (refl, refl)
  called (Some (to_one f)) = (refl, refl)
  called (Some to_none) = (refl, refl)
  called (Some to_two) = (refl, refl)

  by_kind : (k : ExprKind) → get_or t p 0 ≡ kind_byte k → View t x p
  unfolding literal_value literal_in literal_of key_in text_bytes laid_scalar
  by_kind null_kind b = shown null_kind b Value.Null null (rw b) (o null_kind b).is (record { seen = refl; key = refl; present = refl; long = refl; laid = λ r. no-more-bytes x Value.Null Value.Null r refl refl })
  by_kind bool_kind b =
      shown bool_kind b (Value.Bool (eqb (get_or t (p + 3) 0) 1)) (bool (eqb (get_or t (p + 3) 0) 1)) (rw b) (o bool_kind b).is
      (record { seen = refl; key = refl; present = refl; long = refl; laid = λ r. no-more-bytes x (Value.Bool (eqb (get_or t (p + 3) 0) 1)) (Value.Bool (eqb (get_or t (p + 3) 0) 1)) r refl refl })
  by_kind int_kind b =
      shown int_kind b (Value.Int (to_z w64 (long_at t (p + 3)))) (int (to_z w64 (long_at t (p + 3)))) (rw b) (o int_kind b).is
      (record { seen = refl; key = refl; present = refl; long = refl; laid = λ r. no-more-bytes x (Value.Int (to_z w64 (long_at t (p + 3)))) (Value.Int (to_z w64 (long_at t (p + 3)))) r refl refl })
  by_kind uint_kind b =
      shown uint_kind b (Value.Uint (long_at t (p + 3))) (uint (long_at t (p + 3))) (rw b) (o uint_kind b).is
      (record { seen = refl; key = refl; present = refl; long = refl; laid = λ r. no-more-bytes x (Value.Uint (long_at t (p + 3))) (Value.Uint (long_at t (p + 3))) r refl refl })
  by_kind double_kind b =
      shown double_kind b (double_value (double_of (long_at t (p + 3)))) (double (long_at t (p + 3))) (rw b) (o double_kind b).is
      (shows-double x (long_at t (p + 3)) (long-small (p + 3)))
  by_kind string_kind b =
      shown string_kind b (Value.String (span Text.Literal (word_at t (p + 3)) (word_at t (p + 5)))) (string (take (word_at t (p + 5)) (drop (word_at t (p + 3)) x)))
      (rw b) (o string_kind b).is
      (shows-string x (word_at t (p + 3)) (word_at t (p + 5)) (span-inside x (word_at t (p + 3)) (word_at t (p + 5)) (some-span _ (o string_kind b).fits)))
  by_kind bytes_kind b =
      shown bytes_kind b (Value.Bytes (span Text.Literal (word_at t (p + 3)) (word_at t (p + 5)))) (bytes (take (word_at t (p + 5)) (drop (word_at t (p + 3)) x))) (rw b)
      (o bytes_kind b).is (shows-bytes x (word_at t (p + 3)) (word_at t (p + 5)) (span-inside x (word_at t (p + 3)) (word_at t (p + 5)) (o bytes_kind b).fits))
  by_kind name_kind b = another (rw b) (rw (o name_kind b).is) (rw (o name_kind b).is)
  by_kind unary_kind b = another (rw b) (rw (o unary_kind b).is) (rw (o unary_kind b).is)
  by_kind binary_kind b = another (rw b) (rw (o binary_kind b).is) (rw (o binary_kind b).is)
  by_kind conditional_kind b = another (rw b) (rw (o conditional_kind b).is) (rw (o conditional_kind b).is)
  by_kind select_kind b = another (rw b) (rw (o select_kind b).is) (rw (o select_kind b).is)
  by_kind list_kind b = a_list b (rw b) _ (ap literal_in (o list_kind b).is)
  by_kind map_kind b = a_map b (rw b) _ (ap literal_in (o map_kind b).is)
  by_kind comprehension_kind b = another (rw b) (rw (o comprehension_kind b).is) (rw (o comprehension_kind b).is)
  by_kind function_kind b =
      let c = called (numbered functions (get_or t (p + 3) 0)) in another (rw b) (rw (o function_kind b).is c.0) (rw (o function_kind b).is c.1)

  pub view : View t x p
  view = let k = sound-kind t x p s in by_kind k.0 k.1
