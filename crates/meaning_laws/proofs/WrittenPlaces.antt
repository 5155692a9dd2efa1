-- What the writing rules say of every expression: its places rise in the order of the table, and what is written are bytes.
-- Both are shown once for records and for what follows one another, and hold then for every expression. Assumes nothing.
use Prim.Native.Nat.{ℕ, zero, suc, ◌+◌, ◌/◌, ◌≤◌, ◌<◌}
use native.Mathlib.Omega.{arith}
use native.Mathlib.Nat.{zero-add}
use mathlib.Core.Path.{◌≡◌, sym, ap, subst, ◌∙◌}
use mathlib.Core.List.{List, [], ◌∷◌, ◌++◌, map, map-append}
use Rattle.std.specs.Prelude.{Option, None, Some}
use lib.ListN.{length, length-append}
use Rattle.meaning.specs.Limits.{byte_numbers}
use Rattle.meaning.specs.Value.{Scalar, null, bool, int, uint, double, string, bytes}
use Rattle.meaning.specs.Expr.{Expr, literal, name, unary, binary, conditional, select, list_of, map_of, comprehension, call, none_call, or_value}
use Rattle.meaning.specs.Expr.{Elements, no_elements, element, marked_element, Pairs, no_pairs, pair, marked_pair}
use Rattle.meaning.specs.Listing.{Listed, records_of, records_of_elements, records_of_pairs, places_of}
use Rattle.meaning.specs.Heads.{got, start}
use Rattle.meaning.specs.Table.{word_bytes, read_table}
use Rattle.meaning.specs.WellFormed.{AllBytes}
use Rattle.meaning_laws.specs.Written.{Number, little, spelled, Form, nothing, ◌then◌, word, head_bytes, Record, Written, WrittenScalar}
use Rattle.meaning_laws.specs.Written.{WrittenElements, WrittenPairs}
use Rattle.meaning_laws.specs.Places.{Rising}
use Rattle.meaning_laws.proofs.KeptNumbers.{bytes-joined}
use Rattle.meaning_laws.proofs.NothingInvented.{invents-nothing}

-- ---- what holds of records and of what follows one another holds of expressions

-- what is written as G is a record of this kind, with some fields, about F
abbrev AsRecord : ℕ → ℕ → ℕ → Form → Form → Type 0
AsRecord width q kind F G = (p : ℕ) (bs : List ℕ) → G p bs → (ns : List Number) × Record width q kind ns F p bs

module _ (width : ℕ) (text : List ℕ) (Q : Form → List Listed → Type 0) (end : Q nothing [])
    (next : (F G : Form) (xs ys : List Listed) → Q F xs → Q G ys → Q (F then G) (xs ++ ys))
    (one : (q : ℕ) (n : Option ℕ) (kind : ℕ) (F G : Form) (xs : List Listed) → kind < byte_numbers → AsRecord width q kind F G → Q F xs → Q G ((q, n) ∷ xs)) where
  abbrev W : Expr → Form
  W e = Written width text e

  of-scalar : (q : ℕ) (s : Scalar) → Q (WrittenScalar width text q s) ((q, None) ∷ [])
  of-scalar q null = one q None 0 nothing _ [] (omega arith) (λ p bs r. (_, r)) end
  of-scalar q (bool b) = one q None 1 nothing _ [] (omega arith) (λ p bs r. (_, r)) end
  of-scalar q (int z) = one q None 2 nothing _ [] (omega arith) (λ p bs r. (_, r.2)) end
  of-scalar q (uint n) = one q None 3 nothing _ [] (omega arith) (λ p bs r. (_, r)) end
  of-scalar q (double d) = one q None 4 nothing _ [] (omega arith) (λ p bs r. (_, r)) end
  of-scalar q (string s) = one q None 5 nothing _ [] (omega arith) (λ p bs r. (_, r.1.2)) end
  of-scalar q (bytes s) = one q None 6 nothing _ [] (omega arith) (λ p bs r. (_, r.2)) end

  mutual
    of-expr : (e : Expr) → Q (W e) (records_of e)
    of-expr (literal q s) = of-scalar q s
    of-expr (name q n) = one q (Some n) 7 nothing _ [] (omega arith) (λ p bs r. (_, r.1)) end
    of-expr (unary q o x) = one q None 8 (W x) _ _ (omega arith) (λ p bs r. (_, r)) (of-expr x)
    of-expr (binary q o x y) = one q None 9 (W x then W y) _ _ (omega arith) (λ p bs r. (_, r)) (next (W x) (W y) _ _ (of-expr x) (of-expr y))
    of-expr (conditional q x y z) =
        one q None 10 (W x then W y then W z) _ _ (omega arith) (λ p bs r. (_, r))
        (next (W x) (W y then W z) _ _ (of-expr x) (next (W y) (W z) _ _ (of-expr y) (of-expr z)))
    of-expr (select q test field x) = one q None 11 (W x) _ _ (omega arith) (λ p bs r. (_, r.1.2)) (of-expr x)
    of-expr (list_of q es) = one q None 12 (WrittenElements width text es) _ _ (omega arith) (λ p bs r. (_, r)) (of-elements es)
    of-expr (map_of q es) = one q None 13 (WrittenPairs width text es) _ _ (omega arith) (λ p bs r. (_, r)) (of-pairs es)
    of-expr (comprehension q accumulator item range init condition step result) =
        one q None 15 (W range then W init then W condition then W step then W result) _ _ (omega arith) (λ p bs r. (_, r.1.1))
        (next (W range) _ _ _ (of-expr range)
        (next (W init) _ _ _ (of-expr init)
        (next (W condition) _ _ _ (of-expr condition) (next (W step) (W result) _ _ (of-expr step) (of-expr result)))))
    of-expr (call q f x) = one q None 16 (W x) _ _ (omega arith) (λ p bs r. (_, r)) (of-expr x)
    of-expr (none_call q) = one q None 16 nothing _ [] (omega arith) (λ p bs r. (_, r)) end
    of-expr (or_value q x y) = one q None 16 (W x then W y) _ _ (omega arith) (λ p bs r. (_, r)) (next (W x) (W y) _ _ (of-expr x) (of-expr y))

    of-elements : (es : Elements) → Q (WrittenElements width text es) (records_of_elements es)
    of-elements no_elements = end
    of-elements (element e es) = next (W e) (WrittenElements width text es) _ _ (of-expr e) (of-elements es)
    of-elements (marked_element m e es) =
        next (Record width m 14 [] (W e)) (WrittenElements width text es) _ _ (one m None 14 (W e) _ _ (omega arith) (λ p bs r. (_, r)) (of-expr e))
        (of-elements es)

    of-pairs : (es : Pairs) → Q (WrittenPairs width text es) (records_of_pairs es)
    of-pairs no_pairs = end
    of-pairs (pair k e es) =
        next (W k) (W e then WrittenPairs width text es) _ _ (of-expr k) (next (W e) (WrittenPairs width text es) _ _ (of-expr e) (of-pairs es))
    of-pairs (marked_pair k m e es) =
        next (W k) (Record width m 14 [] (W e) then WrittenPairs width text es) _ _ (of-expr k)
        (next (Record width m 14 [] (W e)) (WrittenPairs width text es) _ _ (one m None 14 (W e) _ _ (omega arith) (λ p bs r. (_, r)) (of-expr e))
        (of-pairs es))

-- ---- places

rising-from : (low lower high : ℕ) (ns : List ℕ) → lower ≤ low → Rising low high ns → Rising lower high ns
rising-from low lower high [] h r = tt
rising-from low lower high (n ∷ ns) h r = (omega (arith, r.0), r.1, r.2)

rising-then : (low middle high : ℕ) (xs ys : List ℕ) → low ≤ middle → middle ≤ high → Rising low middle xs → Rising middle high ys
    → Rising low high (xs ++ ys)
rising-then low middle high [] ys h k r s = rising-from middle low high ys h s
rising-then low middle high (x ∷ xs) ys h k r s = (r.0, omega (arith, r.1), rising-then (suc x) middle high xs ys r.1 k r.2 s)

abbrev places_in : List Listed → List ℕ
places_in rs = map (λ (r : Listed). r.0) rs

abbrev Rises : Form → List Listed → Type 0
Rises F rs = (p : ℕ) (bs : List ℕ) → F p bs → Rising p (p + length bs) (places_in rs)

-- Where an expression is written, its places lie inside its bytes and rise in the order of the table.
pub written-rises : (width : ℕ) (text : List ℕ) (e : Expr) → Rises (Written width text e) (records_of e)
written-rises width text e = of-expr width text Rises (λ p bs n. tt) follows begins e
  where
    follows : (F G : Form) (xs ys : List Listed) → Rises F xs → Rises G ys → Rises (F then G) (xs ++ ys)
    follows F G xs ys f g p bs t =
        let (us, vs, e, x, y) = t in
        let total = ap length e ∙ length-append us vs in
        let end : p + length us + length vs ≡ p + length bs = omega arith in
        rw (map-append (λ (r : Listed). r.0) xs ys)
        (rising-then p (p + length us) (p + length bs) (places_in xs) (places_in ys) (omega arith) (omega arith) (f p us x)
        (rw end at (g (p + length us) vs y)))

    begins : (q : ℕ) (n : Option ℕ) (kind : ℕ) (F G : Form) (xs : List Listed) → kind < byte_numbers → AsRecord width q kind F G → Rises F xs
        → Rises G ((q, n) ∷ xs)
    begins q n kind F G xs h s f p bs g =
        let (ns, r) = s p bs g in
        let place = r.here in
        let head = head_bytes width kind (length bs) ns in
        let total = ap length r.bytes ∙ length-append head r.rest in
        let end : p + length head + length r.rest ≡ p + length bs = omega arith in
        let inner = rw end at (f (p + length head) r.rest r.follow) in
        (omega arith, omega arith, rising-from (p + length head) (suc q) (p + length bs) (places_in xs) (omega arith) inner)

-- In an expression that was read from a table of bytes, the places of records and marks rise in the order of the table, and each is a
-- byte of the table.
pub places-rise : (table text : List ℕ) (e : Expr) → AllBytes table → read_table table text ≡ got e → Rising start (length table) (places_of e)
places-rise table text e all b = rw zero-add at (written-rises word_bytes text e start table (invents-nothing table text e all b).written)

-- ---- bytes

all-little : (size n : ℕ) → AllBytes (little size n)
all-little zero n = tt
all-little (suc size) n = (omega arith, all-little size (n / byte_numbers))

all-spelled : (ns : List Number) → AllBytes (spelled ns)
all-spelled [] = tt
all-spelled (n ∷ ns) = bytes-joined (little n.size n.value) (spelled ns) (all-little n.size n.value) (all-spelled ns)

abbrev Bytes : Form → List Listed → Type 0
Bytes F rs = (p : ℕ) (bs : List ℕ) → F p bs → AllBytes bs

-- What the rules write are bytes.
pub written-bytes : (width : ℕ) (text : List ℕ) (e : Expr) (p : ℕ) (bs : List ℕ) → Written width text e p bs → AllBytes bs
written-bytes width text e = of-expr width text Bytes (λ p bs n. rw n tt) follows begins e
  where
    follows : (F G : Form) (xs ys : List Listed) → Bytes F xs → Bytes G ys → Bytes (F then G) (xs ++ ys)
    follows F G xs ys f g p bs t =
        let (us, vs, e, x, y) = t in
        rw e (bytes-joined us vs (f p us x) (g (p + length us) vs y))

    begins : (q : ℕ) (n : Option ℕ) (kind : ℕ) (F G : Form) (xs : List Listed) → kind < byte_numbers → AsRecord width q kind F G → Bytes F xs
        → Bytes G ((q, n) ∷ xs)
    begins q n kind F G xs h s f p bs g =
        let (ns, r) = s p bs g in
        let head = head_bytes width kind (length bs) ns in
        subst (λ (l : List ℕ). AllBytes l) (sym r.bytes)
        (bytes-joined head r.rest (h, all-spelled (word width (length bs) ∷ ns)) (f (p + length head) r.rest r.follow))
