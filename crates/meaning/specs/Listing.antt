-- What can be read off an expression without evaluating it: its records one after the other, as they stand in the table, each with its place and,
-- of a name record, the name. The places of all records and the names that the rule contains are read off that list.
use Rattle.std.specs.Prelude.{ℕ, List, [], ◌∷◌, ◌++◌, map, Option, None, Some}
use Rattle.meaning.specs.Expr.{Expr, literal, name, unary, binary, conditional, select, list_of, map_of, comprehension, call, none_call, or_value, Elements, no_elements, element, marked_element, Pairs, no_pairs, pair, marked_pair}

-- a place, and the name if it is a name record
abbrev pub Listed : Type 0
Listed = ℕ × Option ℕ

abbrev mutual
  pub records_of : Expr → List Listed
  records_of (literal p s) = (p, None) ∷ []
  records_of (name p n) = (p, Some n) ∷ []
  records_of (unary p o e) = (p, None) ∷ records_of e
  records_of (binary p o e f) = (p, None) ∷ records_of e ++ records_of f
  records_of (conditional p c e f) = (p, None) ∷ records_of c ++ (records_of e ++ records_of f)
  records_of (select p test field e) = (p, None) ∷ records_of e
  records_of (list_of p es) = (p, None) ∷ records_of_elements es
  records_of (map_of p es) = (p, None) ∷ records_of_pairs es
  records_of (comprehension p a i range init condition step result) =
      (p, None) ∷ records_of range ++ (records_of init ++ (records_of condition ++ (records_of step ++ records_of result)))
  records_of (call p f e) = (p, None) ∷ records_of e
  records_of (none_call p) = (p, None) ∷ []
  records_of (or_value p e f) = (p, None) ∷ records_of e ++ records_of f

  -- a mark is a record too
  pub records_of_elements : Elements → List Listed
  records_of_elements no_elements = []
  records_of_elements (element e es) = records_of e ++ records_of_elements es
  records_of_elements (marked_element p e es) = (p, None) ∷ records_of e ++ records_of_elements es

  pub records_of_pairs : Pairs → List Listed
  records_of_pairs no_pairs = []
  records_of_pairs (pair k e es) = records_of k ++ (records_of e ++ records_of_pairs es)
  records_of_pairs (marked_pair k p e es) = records_of k ++ ((p, None) ∷ records_of e ++ records_of_pairs es)

abbrev pub places_of : Expr → List ℕ
places_of e = map (λ (r : Listed). r.0) (records_of e)

abbrev pub names_in : List Listed → List ℕ
names_in [] = []
names_in ((p, None) ∷ rs) = names_in rs
names_in ((p, Some n) ∷ rs) = n ∷ names_in rs

abbrev pub names_of : Expr → List ℕ
names_of e = names_in (records_of e)
