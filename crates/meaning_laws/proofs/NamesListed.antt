-- The names of a rule are those that its list of records has, and no others. Assumes nothing.
use mathlib.Core.Logic.{◌⊎◌, inl, inr, ◌↔◌}
use mathlib.Core.List.{List, [], ◌∷◌, ◌++◌}
use Rattle.std.specs.Prelude.{None, Some}
use Prim.Native.Nat.{ℕ}
use Rattle.meaning.specs.Expr.{Expr, name, unary, binary, conditional, select, list_of, map_of, comprehension, call, or_value, Elements, element, marked_element, Pairs, pair, marked_pair}
use Rattle.meaning.specs.Listing.{Listed, records_of, records_of_elements, records_of_pairs, names_in, names_of}
use Rattle.meaning_laws.specs.Names.{Names, NamesInElements, NamesInPairs, In}

abbrev Has : List Listed → ℕ → Type 0
Has rs n = In (names_in rs) n

module _ (n : ℕ) where
  either : (rs ss : List Listed) → Has rs n ⊎ Has ss n → Has (rs ++ ss) n
  either [] ss (inr h) = h
  either ((p, None) ∷ rs) ss h = either rs ss h
  either ((p, Some m) ∷ rs) ss (inl (inl e)) = inl e
  either ((p, Some m) ∷ rs) ss (inl (inr h)) = inr (either rs ss (inl h))
  either ((p, Some m) ∷ rs) ss (inr h) = inr (either rs ss (inr h))
  either [] ss (inl x'') = elim x'' [ ]

  one_of : (rs ss : List Listed) → Has (rs ++ ss) n → Has rs n ⊎ Has ss n
  one_of [] ss h = inr h
  one_of ((p, None) ∷ rs) ss h = one_of rs ss h
  one_of ((p, Some m) ∷ rs) ss (inl e) = inl (inl e)
  one_of ((p, Some m) ∷ rs) ss (inr h) = go (one_of rs ss h)
    where
      go : Has rs n ⊎ Has ss n → Has ((p, Some m) ∷ rs) n ⊎ Has ss n
      go (inl i) = inl (inr i)
      go (inr i) = inr i

  map-either : {A B C D : Type 0} → (A → C) → (B → D) → A ⊎ B → C ⊎ D
  map-either f g (inl a) = inl (f a)
  map-either f g (inr b) = inr (g b)

  joined : {A B : Type 0} (rs ss : List Listed) → (A → Has rs n) → (B → Has ss n) → A ⊎ B → Has (rs ++ ss) n
  joined rs ss f g h = either rs ss (map-either f g h)

  parted : {A B : Type 0} (rs ss : List Listed) → (Has rs n → A) → (Has ss n → B) → Has (rs ++ ss) n → A ⊎ B
  parted rs ss f g h = map-either f g (one_of rs ss h)

  mutual
    unfolding Names NamesInElements NamesInPairs

    listed : (e : Expr) → Names e n → Has (records_of e) n
    listed (name p m) h = inl h
    listed (unary p o e) h = listed e h
    listed (binary p o e f) h = joined (records_of e) (records_of f) (λ i. listed e i) (λ i. listed f i) h
    listed (conditional p c e f) h = joined (records_of c) _ (λ i. listed c i) (joined (records_of e) (records_of f) (λ i. listed e i) (λ i. listed f i)) h
    listed (select p test field e) h = listed e h
    listed (list_of p es) h = listed-elements es h
    listed (map_of p es) h = listed-pairs es h
    listed (comprehension p a i range init condition step result) h =
        joined (records_of range) _ (λ i. listed range i)
        (joined (records_of init) _ (λ i. listed init i)
        (joined (records_of condition) _ (λ i. listed condition i) (joined (records_of step) (records_of result) (λ i. listed step i) (λ i. listed result i)))) h
    listed (call p f e) h = listed e h
    listed (or_value p e f) h = joined (records_of e) (records_of f) (λ i. listed e i) (λ i. listed f i) h
    listed (Rattle.meaning.specs.Expr.literal _ _) h = elim h [ ]
    listed (Rattle.meaning.specs.Expr.none_call _) h = elim h [ ]

    listed-elements : (es : Elements) → NamesInElements es n → Has (records_of_elements es) n
    listed-elements (element e es) h = joined (records_of e) _ (λ i. listed e i) (λ i. listed-elements es i) h
    listed-elements (marked_element p e es) h = joined (records_of e) _ (λ i. listed e i) (λ i. listed-elements es i) h
    listed-elements Rattle.meaning.specs.Expr.no_elements h = elim h [ ]

    listed-pairs : (es : Pairs) → NamesInPairs es n → Has (records_of_pairs es) n
    listed-pairs (pair k e es) h = joined (records_of k) _ (λ i. listed k i) (joined (records_of e) _ (λ i. listed e i) (λ i. listed-pairs es i)) h
    listed-pairs (marked_pair k p e es) h =
        joined (records_of k) ((p, None) ∷ records_of e ++ records_of_pairs es) (λ i. listed k i) (joined (records_of e) _ (λ i. listed e i) (λ i. listed-pairs es i)) h
    listed-pairs Rattle.meaning.specs.Expr.no_pairs h = elim h [ ]

  mutual
    unfolding Names NamesInElements NamesInPairs

    named : (e : Expr) → Has (records_of e) n → Names e n
    named (name p m) (inl h) = h
    named (unary p o e) h = named e h
    named (binary p o e f) h = parted (records_of e) (records_of f) (λ i. named e i) (λ i. named f i) h
    named (conditional p c e f) h = parted (records_of c) _ (λ i. named c i) (parted (records_of e) (records_of f) (λ i. named e i) (λ i. named f i)) h
    named (select p test field e) h = named e h
    named (list_of p es) h = named-elements es h
    named (map_of p es) h = named-pairs es h
    named (comprehension p a i range init condition step result) h =
        parted (records_of range) _ (λ i. named range i)
        (parted (records_of init) _ (λ i. named init i)
        (parted (records_of condition) _ (λ i. named condition i) (parted (records_of step) (records_of result) (λ i. named step i) (λ i. named result i)))) h
    named (call p f e) h = named e h
    named (or_value p e f) h = parted (records_of e) (records_of f) (λ i. named e i) (λ i. named f i) h
    named (Rattle.meaning.specs.Expr.literal _ _) h = elim h [ ]
    named (name p m) (inr x5) = elim x5 [ ]
    named (Rattle.meaning.specs.Expr.none_call _) h = elim h [ ]

    named-elements : (es : Elements) → Has (records_of_elements es) n → NamesInElements es n
    named-elements (element e es) h = parted (records_of e) _ (λ i. named e i) (λ i. named-elements es i) h
    named-elements (marked_element p e es) h = parted (records_of e) _ (λ i. named e i) (λ i. named-elements es i) h
    named-elements Rattle.meaning.specs.Expr.no_elements h = elim h [ ]

    named-pairs : (es : Pairs) → Has (records_of_pairs es) n → NamesInPairs es n
    named-pairs (pair k e es) h = parted (records_of k) _ (λ i. named k i) (parted (records_of e) _ (λ i. named e i) (λ i. named-pairs es i)) h
    named-pairs (marked_pair k p e es) h =
        parted (records_of k) ((p, None) ∷ records_of e ++ records_of_pairs es) (λ i. named k i) (parted (records_of e) _ (λ i. named e i) (λ i. named-pairs es i)) h
    named-pairs Rattle.meaning.specs.Expr.no_pairs h = elim h [ ]

-- A rule contains exactly the names that are read off its records.
pub names-listed : (e : Expr) (n : ℕ) → Names e n ↔ In (names_of e) n
names-listed e n = (listed n e, named n e)
