-- Keys of a table: what the code sees of one and of those before it, and what the definition says of them. Assumes nothing.
use Prim.Native.Nat.{ℕ, zero, suc, ◌<◌}
use mathlib.Core.Path.{◌≡◌, refl, sym, ap, ◌∙◌}
use Rattle.std.specs.Prelude.{Option, None, Some}
use mathlib.Core.List.{List, []}
use mathlib.Core.Bool.{Bool, true, false, not, cond}
use native.Mathlib.Omega.{arith}
use lib.ListN.{get_or}
use Rattle.meaning.specs.Value.{Scalar, null, bool, int, uint, double, string, bytes, key_in}
use Rattle.meaning.specs.Comparison.{rank, same_class, scalar_equal}
use Rattle.table_check.specs.Fits.{is_some}
use Rattle.table_layout.specs.Layout.{after}
use Rattle.table_check.specs.Records.{expr_of, Sound}
use Rattle.rooms.specs.declared.value.Value.{Value}
use Rattle.rooms.specs.Value.{plain_of, is_key}
use Rattle.rooms_comparison.specs.Seen.{seen_of, seen_scalar, same_seen}
use Rattle.bindings_literals.specs.Literals.{literal_in, literal_value, keys_from, Entries}
use Rattle.bindings_literals.specs.Judging.{matches, is_among, key_fault, repeated_in}
use Rattle.bindings_literals.proofs.LiteralLaws.{View, a_scalar, a_list, a_map, another, view}

never : {A : Type 0} {b : Bool} → b ≡ true → b ≡ false → A
never e f = let z : true ≡ false = sym e ∙ f in let y : ◌≡◌ {A = ℕ} 1 0 = ap (λ b. cond b 1 0) z in absurd (omega arith)

-- Null matches no key
not_null : (s : Scalar) → is_some (key_in s) ≡ true → scalar_equal s null ≡ false
unfolding key_in scalar_equal same_class rank
not_null null h = never h refl
not_null (bool b) h = refl
not_null (int z) h = refl
not_null (uint n) h = refl
not_null (double d) h = never h refl
not_null (string s) h = refl
not_null (bytes s) h = never h refl

module _ (t x : List ℕ) (small : (i : ℕ) → get_or t i 0 < 256) where
  module _ (s : Scalar) (v : Value) (shows : seen_of x [] [] (plain_of v) ≡ seen_scalar s) (key : is_some (key_in s) ≡ true) where
    one : (q : ℕ) → View t x q → same_seen (seen_of x [] [] (plain_of v)) (seen_of x [] [] (plain_of (literal_value t q))) ≡ matches s (literal_in (expr_of t x q))
    unfolding matches literal_in
    one q (a_scalar y e h) = rw (shows, h.seen, e)
    one q (a_list b e ls f) = rw (shows, e, f)
    one q (a_map b e ls f) = rw (shows, e, f)
    one q (another e f g) = rw (shows, e, f) (sym (not_null s key))

    among-is : (n q : ℕ) → Entries t x n q → repeated_in t x v n q ≡ is_among s (keys_from t x n q)
    unfolding repeated_in is_among keys_from
    among-is zero q es = refl
    among-is (suc n) q es = rw (one q (view t x q small es.0), among-is n (after t (after t q)) es.2)

  module _ (n first p : ℕ) (es : Entries t x n first) (v : Value) (is : v ≡ literal_value t p) where
    abbrev Says : Option ℕ → Type 0
    Says f = f ≡ key_fault (keys_from t x n first) (literal_in (expr_of t x p))

    no-key-by : View t x p → is_key v ≡ false → Says (Some p)
    unfolding key_fault literal_in key_in
    no-key-by (a_scalar s e h) k = let g : is_some (key_in s) ≡ false = sym h.key ∙ (rw (← is) k) in rw (e, g)
    no-key-by (a_list b e ls f) k = rw f
    no-key-by (a_map b e ls f) k = rw f
    no-key-by (another e f g) k = rw f

    absent-key : literal_value t p ≡ Value.Absent → is_key v ≡ false
    absent-key e = rw (is, e)

    key-by : View t x p → is_key v ≡ true → (b : Bool) → repeated_in t x v n first ≡ b → Says (cond b (Some p) None)
    unfolding key_fault literal_in
    key-by (a_scalar s e h) k b r =
        let g : is_some (key_in s) ≡ true = sym h.key ∙ (rw (← is) k) in
        let m : is_among s (keys_from t x n first) ≡ b = sym (among-is s v (rw is h.seen) g n first es) ∙ r in
        rw (e, g, m) (flipped b)
      where
        flipped : (b : Bool) → cond b (Some p) None ≡ cond (not b) None (Some p)
        flipped true = refl
        flipped false = refl
    key-by (a_list b e ls f) k c r = never k (absent-key e)
    key-by (a_map b e ls f) k c r = never k (absent-key e)
    key-by (another e f g) k c r = never k (absent-key e)

    module _ (s : Sound t x p) where
      pub no_key : is_key v ≡ false → Says (Some p)
      no_key k = no-key-by (view t x p small s) k

      pub key-again : is_key v ≡ true → repeated_in t x v n first ≡ true → Says (Some p)
      key-again k r = key-by (view t x p small s) k true r

      pub key-new : is_key v ≡ true → repeated_in t x v n first ≡ false → Says None
      key-new k r = key-by (view t x p small s) k false r
