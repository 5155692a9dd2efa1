-- The expressions that tables spell: literals that are sound values, texts that a table's numbers can point at, and names below 128.
use Rattle.std.specs.Prelude.{ℕ, ◌^◌, ◌<◌, ◌≡◌, List, true}
use Rattle.text.specs.Utf8.{well_formed}
use Rattle.meaning.specs.Limits.{names}
use Rattle.meaning.specs.Value.{Scalar}
use Rattle.meaning.specs.Expr.{Expr, literal, name, unary, binary, conditional, select, list_of, map_of, comprehension, call, none_call, or_value, Elements, no_elements, element, marked_element, Pairs, no_pairs, pair, marked_pair}
use Rattle.meaning.specs.Bindings.{text_bytes}
use Rattle.meaning.specs.WellFormed.{AllBytes, SoundScalar}

-- a length in a table is two bytes
abbrev pub spans : ℕ
spans = 2 ^ 16

abbrev pub FormedLiteral : Scalar → Type 0
FormedLiteral x = SoundScalar x × (text_bytes x < spans)

abbrev pub FormedField : List ℕ → Type 0
FormedField s = AllBytes s × (well_formed s ≡ true)

abbrev mutual
  pub Formed : Expr → Type 0
  Formed (literal p x) = FormedLiteral x
  Formed (name p n) = n < names
  Formed (unary p o e) = Formed e
  Formed (binary p o e f) = Formed e × Formed f
  Formed (conditional p c e f) = Formed c × Formed e × Formed f
  Formed (select p test field e) = FormedField field × Formed e
  Formed (list_of p es) = FormedElements es
  Formed (map_of p es) = FormedPairs es
  Formed (comprehension p a i range init condition step result) =
      (a < names) × (i < names) × Formed range × Formed init × Formed condition × Formed step × Formed result
  Formed (call p f e) = Formed e
  Formed (none_call p) = Unit {0}
  Formed (or_value p e f) = Formed e × Formed f

  pub FormedElements : Elements → Type 0
  FormedElements no_elements = Unit {0}
  FormedElements (element e es) = Formed e × FormedElements es
  FormedElements (marked_element p e es) = Formed e × FormedElements es

  pub FormedPairs : Pairs → Type 0
  FormedPairs no_pairs = Unit {0}
  FormedPairs (pair k e es) = Formed k × Formed e × FormedPairs es
  FormedPairs (marked_pair k p e es) = Formed k × Formed e × FormedPairs es
