-- Equality and the look-up of a key, where values lie, are the definition's: the same answer after the same count of pairs, and `Out`
-- exactly where the count would pass the limit. Assumes nothing.
use Prim.Native.Nat.{ℕ, zero, suc, ◌+◌, ◌<◌}
use mathlib.Core.Path.{◌≡◌, refl, sym, ◌∙◌, ap, ap₂, subst, fun_ext}
use Rattle.std.specs.Prelude.{Option, None, Some}
use mathlib.Core.Bool.{Bool, true, false, cond}
use native.Mathlib.Omega.{arith}
use lib.Dec.{eqb, ltb, eqb→eq, T}
use Rattle.meaning.specs.Value as Meaning
use Rattle.meaning.specs.Value.{scalar, list, map, optional_none, optional_of, nil, cons, empty, entry, nesting, nesting_in, nesting_over, count, count_entries, key_scalar, scalar_of, elements_of, entries_of, is_none, part_of}
use Rattle.meaning.specs.Comparison as Comparison
use Rattle.meaning.specs.Comparison.{scalar_equal, Tally, tick, both, find, against, elements_against, found_against, equal, equal_elements, equal_entries, among}
use Rattle.rooms.specs.declared.value.Value.{Value}
use Rattle.rooms.specs.declared.value.Parts.{Parts}
use Rattle.rooms.specs.declared.value.CellSpace.{CellSpace}
use Rattle.rooms.specs.Value.{parts_of, nesting_of}
use Rattle.rooms.specs.Rooms.{Rooms, cell_at}
use Rattle.rooms.specs.Stands.{Alive, StandsScalar, Stands, StandsCells, StandsEntries}
use Rattle.rooms.proofs.Depths.{deeper-list, deeper-map, deeper-part, first-less, others-less, first-value, other-values, stands-nesting}
use Rattle.rooms_comparison.specs.declared.pairs.Pairs.{Pairs}
use Rattle.rooms_comparison.specs.declared.lookup.Found.{Found}
use Rattle.rooms_comparison.specs.Equality as Machine
use Rattle.rooms_comparison.specs.Seen.{same_seen, seen_in}
use Rattle.rooms_comparison.specs.LookUp.{pair_found, find_in}
use Rattle.rooms_comparison.specs.Equality.{pair, decided, and_then, where_found, Compare, elements_equal, entries_equal, parts_equal, equal_in, equal_pairs, or_else, among_in, pays, paid}
use Rattle.rooms_comparison.specs.Finds.{FoundIs, Finds}
use Rattle.rooms_comparison.proofs.Charges.{pays-add, pays-found, both-paid, either-paid, tick-paid}
use Rattle.rooms_comparison.proofs.SeenMeaning.{scalar-tally, none-tally, scalar-seen, scalar-parts, seen-stands}
use Rattle.rooms.specs.Spans.{row}

-- ---- the look-up

module _ (L : Alive) (r : Rooms) (limit : ℕ) where
  -- Looking a key up finds what the definition's look-up finds, after the same count.
  pub find-ok : (x : Meaning.Scalar) (m : Value) (es : Meaning.Entries) (space : CellSpace) (a k : ℕ) → StandsScalar x L r m → StandsEntries es L r space a → Finds L r space limit k (find x es) (find_in limit r m space a (count_entries es) k)
  unfolding find find_in Stands count_entries tick
  find-ok x m empty space a k h i = ((λ j. Found.Missing j), refl, refl)
  find-ok x m (entry key v es) space a k h i =
      go (scalar_equal x (key_scalar key)) (find-ok x m es space (suc (suc a)) (suc k) h i.4) tested
    where
      tested : same_seen (seen_in r m) (seen_in r (cell_at r space a)) ≡ scalar_equal x (key_scalar key)
      tested = ap₂ same_seen (scalar-seen L r x m h) (scalar-seen L r (key_scalar key) (cell_at r space a) i.1)

      go : (b : Bool) → Finds L r space limit (suc k) (find x es) (find_in limit r m space (suc (suc a)) (count_entries es) (suc k)) → same_seen (seen_in r m) (seen_in r (cell_at r space a)) ≡ b → Finds L r space limit k (tick (cond b (0, Some v) (find x es))) (pair_found (ltb k limit) k (cond (same_seen (seen_in r m) (seen_in r (cell_at r space a))) (Found.At (suc a) (suc k)) (find_in limit r m space (suc (suc a)) (count_entries es) (suc k))))
      go true ih e = ((λ j. Found.At (suc a) j), (suc a, refl, i.2, i.3), ap (λ c. pair_found (ltb k limit) k (cond c (Found.At (suc a) (suc k)) (find_in limit r m space (suc (suc a)) (count_entries es) (suc k)))) e)
      go false ih e = (ih.0, ih.1, ap (λ c. pair_found (ltb k limit) k (cond c (Found.At (suc a) (suc k)) (find_in limit r m space (suc (suc a)) (count_entries es) (suc k)))) e ∙ ap (pair_found (ltb k limit) k) ih.2)

  -- a test of lengths that goes on where it holds
  lengths : (b : Bool) (k : ℕ) (p : Pairs) (t : Tally Bool) → (b ≡ true → p ≡ paid limit k t) → cond b p (Pairs.Unlike k) ≡ paid limit k (both (Comparison.decided b) t)
  unfolding both paid
  lengths true k p t h = h refl ∙ ap (λ n. pays limit k n (decided t.1)) (plus-zero t.0)
    where
      plus-zero : (a : ℕ) → a ≡ 0 + a
      plus-zero a = omega arith
  lengths false k p t h = refl

  -- the pair of two values, by what the left one is made of
  begun : (n : ℕ) (x y : Value) (k : ℕ) (p : Parts) (t : Tally Bool) → parts_of x ≡ p → parts_equal (λ v w j. equal_in n limit r v w j) limit r x y p (suc k) ≡ paid limit (suc k) t → equal_in (suc n) limit r x y k ≡ paid limit k (tick t)
  unfolding equal_in
  begun n x y k p t e h = ap (λ q. pair (ltb k limit) k (parts_equal (λ v w j. equal_in n limit r v w j) limit r x y q (suc k))) e ∙ ap (pair (ltb k limit) k) h ∙ tick-paid limit k t

  -- what a value is made of, seen from a list, from a map and from a present Optional
  lists-paid : (f : Compare) (vs : Meaning.Values) (s : CellSpace) (a k : ℕ) (w : Meaning.Value) (y : Value) → Stands w L r y → ((ws : Meaning.Values) (t : CellSpace) (b : ℕ) → count vs ≡ count ws → StandsCells ws L r t b → elements_equal f r s a t b (count vs) k ≡ paid limit k (equal_elements vs ws)) → Machine.elements_against f r s a (count vs) (parts_of y) k ≡ paid limit k (against (λ ws. both (Comparison.decided (eqb (count vs) (count ws))) (equal_elements vs ws)) (elements_of w))
  unfolding Stands elements_of against paid
  lists-paid f vs s a k (scalar x) y h g = ap (λ q. Machine.elements_against f r s a (count vs) q k) (scalar-parts L r x y h)
  lists-paid f vs s a k (list ws) y h g = ap (λ q. Machine.elements_against f r s a (count vs) (parts_of q) k) h.2 ∙ lengths (eqb (count vs) (count ws)) k _ (equal_elements vs ws) (λ e. g ws h.0 h.1 (eqb→eq (count vs) (count ws) (subst T (sym e) tt)) h.3)
  lists-paid f vs s a k (map es) y h g = ap (λ q. Machine.elements_against f r s a (count vs) (parts_of q) k) h.2
  lists-paid f vs s a k optional_none y h g = ap (λ q. Machine.elements_against f r s a (count vs) (parts_of q) k) h
  lists-paid f vs s a k (optional_of v) y h g = ap (λ q. Machine.elements_against f r s a (count vs) (parts_of q) k) h.2

  maps-paid : (f : Compare) (es : Meaning.Entries) (s : CellSpace) (a k : ℕ) (w : Meaning.Value) (y : Value) → Stands w L r y → ((fs : Meaning.Entries) (t : CellSpace) (b : ℕ) → StandsEntries fs L r t b → entries_equal f limit r s a t b (count_entries fs) (count_entries es) k ≡ paid limit k (equal_entries es fs)) → Machine.entries_against f limit r s a (count_entries es) (parts_of y) k ≡ paid limit k (against (λ fs. both (Comparison.decided (eqb (count_entries es) (count_entries fs))) (equal_entries es fs)) (entries_of w))
  unfolding Stands entries_of against paid
  maps-paid f es s a k (scalar x) y h g = ap (λ q. Machine.entries_against f limit r s a (count_entries es) q k) (scalar-parts L r x y h)
  maps-paid f es s a k (list ws) y h g = ap (λ q. Machine.entries_against f limit r s a (count_entries es) (parts_of q) k) h.2
  maps-paid f es s a k (map fs) y h g = ap (λ q. Machine.entries_against f limit r s a (count_entries es) (parts_of q) k) h.2 ∙ lengths (eqb (count_entries es) (count_entries fs)) k _ (equal_entries es fs) (λ e. g fs h.0 h.1 h.3)
  maps-paid f es s a k optional_none y h g = ap (λ q. Machine.entries_against f limit r s a (count_entries es) (parts_of q) k) h
  maps-paid f es s a k (optional_of v) y h g = ap (λ q. Machine.entries_against f limit r s a (count_entries es) (parts_of q) k) h.2

  present-paid : (f : Compare) (v : Meaning.Value) (s : CellSpace) (a k : ℕ) (w : Meaning.Value) (y : Value) → Stands w L r y → ((u : Meaning.Value) (t : CellSpace) (b : ℕ) → Stands u L r (cell_at r t b) → f (cell_at r s a) (cell_at r t b) k ≡ paid limit k (equal v u)) → Machine.present_against f r s a (parts_of y) k ≡ paid limit k (against (λ u. equal v u) (part_of w))
  unfolding Stands part_of against paid
  present-paid f v s a k (scalar x) y h g = ap (λ q. Machine.present_against f r s a q k) (scalar-parts L r x y h)
  present-paid f v s a k (list ws) y h g = ap (λ q. Machine.present_against f r s a (parts_of q) k) h.2
  present-paid f v s a k (map es) y h g = ap (λ q. Machine.present_against f r s a (parts_of q) k) h.2
  present-paid f v s a k optional_none y h g = ap (λ q. Machine.present_against f r s a (parts_of q) k) h
  present-paid f v s a k (optional_of u) y h g = ap (λ q. Machine.present_against f r s a (parts_of q) k) h.2 ∙ g u h.0 h.1 h.4

  -- charges first, then two tallies
  both-after : (n : ℕ) (u e : Tally Bool) → ◌≡◌ {A = Tally Bool} (both (both (n, true) u) e) (n + (both u e).0, (both u e).1)
  unfolding both
  both-after n u e = go u.1
    where
      assoc : (a b c : ℕ) → a + b + c ≡ a + (b + c)
      assoc a b c = omega arith

      made : ℕ → Tally Bool
      made z = (z, e.1)

      inside : Bool → Tally Bool
      inside b = cond b (u.0 + e.0, e.1) (u.0, b)

      go : (b : Bool) → ◌≡◌ {A = Tally Bool} (cond b (n + u.0 + e.0, e.1) (n + u.0, b)) (n + (inside b).0, (inside b).1)
      go true = ap made (assoc n u.0 e.0)
      go false = refl

  paid-after : (k n : ℕ) (t : Tally Bool) → pays limit k n (λ j. paid limit j t) ≡ paid limit k (n + t.0, t.1)
  unfolding paid
  paid-after k n t = sym (pays-add limit k n t.0 (decided t.1))

  -- one entry: its key is looked up, then the values are compared, then the other entries
  entry-paid : (k : ℕ) (t : Tally (Option Meaning.Value)) (space : CellSpace) (p : Found) (v : Meaning.Value) (rest : Tally Bool) (g : ℕ → ℕ → Pairs) → Finds L r space limit k t p → ((w : Meaning.Value) (c : ℕ) → Stands w L r (cell_at r space c) → (j : ℕ) → g c j ≡ paid limit j (both (equal v w) rest)) → where_found p g ≡ paid limit k (both (found_against (λ w. equal v w) t) rest)
  unfolding found_against against both paid
  entry-paid k t space p v rest g h s = ap (λ z. where_found z g) h.2 ∙ pays-found g limit k t.0 h.0 ∙ go t.1 h.1
    where
      go : (o : Option Meaning.Value) → FoundIs L r space o h.0 → pays limit k t.0 (λ j. where_found (h.0 j) g) ≡ paid limit k (both (both (t.0, true) (against (λ w. equal v w) o)) rest)
      go None e = ap (λ f. pays limit k t.0 (λ j. where_found (f j) g)) e ∙ paid-after k t.0 (Comparison.decided false) ∙ ap (paid limit k) (sym (both-after t.0 (Comparison.decided false) rest))
      go (Some w) e = ap (λ f. pays limit k t.0 (λ j. where_found (f j) g)) e.1 ∙ ap (pays limit k t.0) (fun_ext (s w e.0 e.3)) ∙ paid-after k t.0 (both (equal v w) rest) ∙ ap (paid limit k) (sym (both-after t.0 (equal v w) rest))

  -- values without parts
  plain-paid : (x y : Value) (w : Meaning.Value) (z : Meaning.Scalar) (k : ℕ) → StandsScalar z L r x → Stands w L r y → decided (same_seen (seen_in r x) (seen_in r y)) (suc k) ≡ paid limit (suc k) (against (λ u. Comparison.decided (scalar_equal z u)) (scalar_of w))
  unfolding paid
  plain-paid x y w z k h i = (λ j. decided (same_seen (scalar-seen L r z x h j) (seen-stands L r w y i j)) (suc k)) ∙ ap (paid limit (suc k)) (sym (scalar-tally z w))

  none-paid : (x y : Value) (w : Meaning.Value) (k : ℕ) → x ≡ Value.OptionalNone → Stands w L r y → decided (same_seen (seen_in r x) (seen_in r y)) (suc k) ≡ paid limit (suc k) (Comparison.decided (is_none w))
  unfolding paid seen_in
  none-paid x y w k h i = (λ j. decided (same_seen (seen_in r (h j)) (seen-stands L r w y i j)) (suc k)) ∙ ap (λ b. decided b (suc k)) (sym (none-tally w))

  uneven : (v : Meaning.Value) (vs : Meaning.Values) → count (cons v vs) ≡ count nil → ⊥
  unfolding count
  uneven v vs e = omega arith

  one_less : (vs ws : Meaning.Values) (v w : Meaning.Value) → count (cons v vs) ≡ count (cons w ws) → count vs ≡ count ws
  unfolding count
  one_less vs ws v w e = omega arith

  -- a turn of each loop
  nothing_left : (n : ℕ) (s : CellSpace) (a : ℕ) (t : CellSpace) (b k : ℕ) → elements_equal (λ x y j. equal_in n limit r x y j) r s a t b (count nil) k ≡ paid limit k (Comparison.decided true)
  unfolding count elements_equal paid
  nothing_left n s a t b k = refl

  first-element : (n : ℕ) (s : CellSpace) (a : ℕ) (t : CellSpace) (b k : ℕ) (v : Meaning.Value) (vs : Meaning.Values) (w : Meaning.Value) (ws : Meaning.Values) → equal_in n limit r (cell_at r s a) (cell_at r t b) k ≡ paid limit k (equal v w) → ((j : ℕ) → elements_equal (λ x y i. equal_in n limit r x y i) r s (suc a) t (suc b) (count vs) j ≡ paid limit j (equal_elements vs ws)) → elements_equal (λ x y j. equal_in n limit r x y j) r s a t b (count (cons v vs)) k ≡ paid limit k (elements_against (λ u. equal v u) (λ us. equal_elements vs us) (cons w ws))
  unfolding count elements_equal elements_against
  first-element n s a t b k v vs w ws e h = ap (λ z. and_then z (λ j. elements_equal (λ x y i. equal_in n limit r x y i) r s (suc a) t (suc b) (count vs) j)) e ∙ both-paid limit k (equal v w) (equal_elements vs ws) _ h

  no-entry : (n : ℕ) (s : CellSpace) (a : ℕ) (t : CellSpace) (b m k : ℕ) → entries_equal (λ x y j. equal_in n limit r x y j) limit r s a t b m (count_entries empty) k ≡ paid limit k (Comparison.decided true)
  unfolding count_entries entries_equal paid
  no-entry n s a t b m k = refl

  first_entry : (n : ℕ) (s : CellSpace) (a : ℕ) (t : CellSpace) (b m k : ℕ) (key : Meaning.Key) (v : Meaning.Value) (es fs : Meaning.Entries) → Finds L r t limit k (find (key_scalar key) fs) (find_in limit r (cell_at r s a) t b m k) → ((w : Meaning.Value) (c : ℕ) → Stands w L r (cell_at r t c) → (j : ℕ) → equal_in n limit r (cell_at r s (suc a)) (cell_at r t c) j ≡ paid limit j (equal v w)) → ((j : ℕ) → entries_equal (λ x y i. equal_in n limit r x y i) limit r s (suc (suc a)) t b m (count_entries es) j ≡ paid limit j (equal_entries es fs)) → entries_equal (λ x y j. equal_in n limit r x y j) limit r s a t b m (count_entries (entry key v es)) k ≡ paid limit k (both (found_against (λ w. equal v w) (find (key_scalar key) fs)) (equal_entries es fs))
  unfolding count_entries entries_equal
  first_entry n s a t b m k key v es fs g e h = entry-paid k (find (key_scalar key) fs) t _ v (equal_entries es fs) _ g (λ w c i j. ap (λ z. and_then z (λ u. entries_equal (λ x y q. equal_in n limit r x y q) limit r s (suc (suc a)) t b m (count_entries es) u)) (e w c i j) ∙ both-paid limit j (equal v w) (equal_entries es fs) _ h)

  mutual
    unfolding Stands equal

    -- Two values that stand for v and w are compared as the definition says: the answer and the count.
    pub equal-ok : (v w : Meaning.Value) (n : ℕ) (x y : Value) (k : ℕ) → nesting v < n → Stands v L r x → Stands w L r y → equal_in n limit r x y k ≡ paid limit k (equal v w)
    equal-ok (scalar z) w zero x y k d h i = absurd (omega arith)
    equal-ok (scalar z) w (suc n) x y k d h i = begun n x y k Parts.Nothing _ (scalar-parts L r z x h) (plain-paid x y w z k h i)
    equal-ok (list vs) w zero x y k d h i = absurd (omega arith)
    equal-ok (list vs) w (suc n) x y k d h i = begun n x y k (Parts.Elements (row h.0 h.1 (count vs))) _ (ap parts_of h.2) (lists-paid (λ v' w' j. equal_in n limit r v' w' j) vs h.0 h.1 (suc k) w y i (λ ws t b e g. elements-ok vs ws n h.0 h.1 t b (suc k) (deeper-list vs n d) e h.3 g))
    equal-ok (map es) w zero x y k d h i = absurd (omega arith)
    equal-ok (map es) w (suc n) x y k d h i = begun n x y k (Parts.Entries (row h.0 h.1 (count_entries es))) _ (ap parts_of h.2) (maps-paid (λ v' w' j. equal_in n limit r v' w' j) es h.0 h.1 (suc k) w y i (λ fs t b g. entries-ok es fs n h.0 h.1 t b (suc k) (deeper-map es n d) h.3 g))
    equal-ok optional_none w zero x y k d h i = absurd (omega arith)
    equal-ok optional_none w (suc n) x y k d h i = begun n x y k Parts.Nothing _ (ap parts_of h) (none-paid x y w k h i)
    equal-ok (optional_of v) w zero x y k d h i = absurd (omega arith)
    equal-ok (optional_of v) w (suc n) x y k d h i = begun n x y k (Parts.Present h.0 h.1) _ (ap parts_of h.2) (present-paid (λ v' w' j. equal_in n limit r v' w' j) v h.0 h.1 (suc k) w y i (λ u t b g. equal-ok v u n (cell_at r h.0 h.1) (cell_at r t b) (suc k) (deeper-part v n d) h.4 g))

    elements-ok : (vs ws : Meaning.Values) (n : ℕ) (s : CellSpace) (a : ℕ) (t : CellSpace) (b k : ℕ) → nesting_in vs < n → count vs ≡ count ws → StandsCells vs L r s a → StandsCells ws L r t b → elements_equal (λ x y j. equal_in n limit r x y j) r s a t b (count vs) k ≡ paid limit k (equal_elements vs ws)
    elements-ok nil ws n s a t b k d e h i = nothing_left n s a t b k
    elements-ok (cons v vs) nil n s a t b k d e h i = absurd (uneven v vs e)
    elements-ok (cons v vs) (cons w ws) n s a t b k d e h i =
        first-element n s a t b k v vs w ws
        (equal-ok v w n (cell_at r s a) (cell_at r t b) k (first-less v vs n d) h.1 i.1)
        (λ j. elements-ok vs ws n s (suc a) t (suc b) j (others-less v vs n d) (one_less vs ws v w e) h.2 i.2)

    entries-ok : (es fs : Meaning.Entries) (n : ℕ) (s : CellSpace) (a : ℕ) (t : CellSpace) (b k : ℕ) → nesting_over es < n → StandsEntries es L r s a → StandsEntries fs L r t b → entries_equal (λ x y j. equal_in n limit r x y j) limit r s a t b (count_entries fs) (count_entries es) k ≡ paid limit k (equal_entries es fs)
    entries-ok empty fs n s a t b k d h i = no-entry n s a t b (count_entries fs) k
    entries-ok (entry key v es) fs n s a t b k d h i =
        first_entry n s a t b (count_entries fs) k key v es fs
        (find-ok (key_scalar key) (cell_at r s a) fs t b k h.1 i)
        (λ w c g j. equal-ok v w n (cell_at r s (suc a)) (cell_at r t c) j (first-value key v es n d) h.3 g)
        (λ j. entries-ok es fs n s (suc (suc a)) t b j (other-values key v es n d) h.4 i)

  -- `equality::equal` answers what the definition's `equal` does, after as many pairs; `Out` exactly where a pair would pass the limit.
  pub equal-pairs : (v w : Meaning.Value) (x y : Value) (k : ℕ) → Stands v L r x → Stands w L r y → equal_pairs limit r x y k ≡ paid limit k (equal v w)
  unfolding equal_pairs
  equal-pairs v w x y k h i = equal-ok v w (suc (nesting_of x)) x y k (omega (arith, stands-nesting L r v x h)) h i

  -- `in_list::among` likewise is `among`.
  pub among-ok : (v : Meaning.Value) (ws : Meaning.Values) (x : Value) (space : CellSpace) (a k : ℕ) → Stands v L r x → StandsCells ws L r space a → among_in limit r x space a (count ws) k ≡ paid limit k (among v ws)
  unfolding Stands among_in among count paid
  among-ok v nil x space a k h i = refl
  among-ok v (cons w ws) x space a k h i = ap (λ z. or_else z (λ j. among_in limit r x space (suc a) (count ws) j)) (equal-pairs v w x (cell_at r space a) k h i.1) ∙ either-paid limit k (equal v w) (among v ws) _ (λ j. among-ok v ws x space (suc a) j h i.2)
