-- Which names an expression names: the numbers in its name records, and not those that a comprehension only carries for its accumulator
-- and its item. Two scopes agree where both hold the same value, or both none, under each name in question.
use Rattle.std.specs.Prelude.{ℕ, ◌≡◌, ◌⊎◌, List, [], ◌∷◌, None}
use Rattle.meaning.specs.Expr.{Expr, literal, name, unary, binary, conditional, select, list_of, map_of, comprehension, call, none_call, or_value, Elements, no_elements, element, marked_element, Pairs, no_pairs, pair, marked_pair}
use Rattle.meaning.specs.Comprehension.{Scope}

-- a name record of the number n stands in the expression
unfoldable mutual
  pub Names : Expr → ℕ → Type 0
  Names (literal p x) n = ⊥
  Names (name p m) n = n ≡ m
  Names (unary p o e) n = Names e n
  Names (binary p o e f) n = Names e n ⊎ Names f n
  Names (conditional p c e f) n = Names c n ⊎ Names e n ⊎ Names f n
  Names (select p test field e) n = Names e n
  Names (list_of p es) n = NamesInElements es n
  Names (map_of p ps) n = NamesInPairs ps n
  Names (comprehension p a i range init condition step result) n = Names range n ⊎ Names init n ⊎ Names condition n ⊎ Names step n ⊎ Names result n
  Names (call p f e) n = Names e n
  Names (none_call p) n = ⊥
  Names (or_value p target argument) n = Names target n ⊎ Names argument n

  pub NamesInElements : Elements → ℕ → Type 0
  NamesInElements no_elements n = ⊥
  NamesInElements (element e es) n = Names e n ⊎ NamesInElements es n
  NamesInElements (marked_element p e es) n = Names e n ⊎ NamesInElements es n

  pub NamesInPairs : Pairs → ℕ → Type 0
  NamesInPairs no_pairs n = ⊥
  NamesInPairs (pair k e ps) n = Names k n ⊎ Names e n ⊎ NamesInPairs ps n
  NamesInPairs (marked_pair k p e ps) n = Names k n ⊎ Names e n ⊎ NamesInPairs ps n

-- under each of these names both scopes hold the same value, or both none
abbrev pub Agree : (ℕ → Type 0) → Scope → Scope → Type 0
Agree these s t = (n : ℕ) → these n → s n ≡ t n

-- under none of these names the scope holds a value
abbrev pub Absent : (ℕ → Type 0) → Scope → Type 0
Absent these s = (n : ℕ) → these n → s n ≡ None

-- each of these names is one of those
abbrev pub Among : (ℕ → Type 0) → (ℕ → Type 0) → Type 0
Among these those = (n : ℕ) → these n → those n

-- a number in a list of numbers
abbrev pub In : List ℕ → ℕ → Type 0
In [] n = ⊥
In (m ∷ ms) n = (n ≡ m) ⊎ In ms n
