-- Where a byte stands first. Assumes nothing.
use Rattle.std.proofs.Common.{◌≡◌, ◌∙◌, refl, ap, sym, ℕ, ◌+◌, ◌-◌, min, Bool, true, false, List, length, take, drop, length-drop, arith, cond, Option, Some, None, eqb, nat_lt, one-add, le_antisymm}
use Rattle.std.specs.Option.{unwrap_or}
use Rattle.std.specs.List.{position_or_len, position}
use Rattle.std.proofs.lemmas.List.{drop_min}
use Rattle.std.proofs.lemmas.List.Recursion.{is_position_or_len}
use Rattle.std.proofs.lemmas.List.Sums.{prefix_len-le-length}
use lib.Seq.{take_all}
use borrow.Author.Tests.{ltb-false}
use Rattle.program_words.specs.Place.{place_of, place_from}

place_is : (b : ℕ) (l : List ℕ) → place_of b l ≡ position_or_len (λ x. eqb x b) l
unfolding place_of
place_is b l = is_position_or_len (place_of b) (λ x. eqb x b) refl (λ x xs. ap (cond (eqb x b) 0) (sym (one-add (place_of b xs)))) l

place_found : (b : ℕ) (l : List ℕ) → unwrap_or (position (λ x. eqb x b) l) (length l) ≡ place_of b l
place_found b l = go (nat_lt place (length l)) refl ∙ sym (place_is b l)
  where
    place : ℕ
    place = position_or_len (λ x. eqb x b) l

    go : (t : Bool) → nat_lt place (length l) ≡ t → unwrap_or (cond t (Some place) None) (length l) ≡ place
    go true e = refl
    go false e = le_antisymm (ltb-false _ _ e) (prefix_len-le-length _ l)

-- what `find` returns: where the byte stands behind the start, counted from there
pub place_after : (b from : ℕ) {start : ℕ} {found : Option ℕ} {r : ℕ} (l : List ℕ) →
    start ≡ min from (length l) → found ≡ position (λ x. eqb x b) (take (length l - start) (drop start l)) → r ≡ unwrap_or found (length l - start) →
    start + r ≡ place_from b l from
place_after b from {start} l e f g =
    let whole = take_all (length l - start) (drop start l) (omega (arith, length-drop start l)) in
    ap (λ n. start + n) (
    g ∙ ap (λ o. unwrap_or o (length l - start)) (f ∙ ap (position (λ x. eqb x b)) whole) ∙ ap (unwrap_or (position (λ x. eqb x b) (drop start l))) (sym (length-drop start l))
    ∙ place_found b (drop start l))
    ∙ ap (λ n. n + place_of b (drop n l)) e
    ∙ ap (λ s. min from (length l) + place_of b s) (drop_min from l)
