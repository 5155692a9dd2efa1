-- What the machine asks of an expression: numbers in range, names that there are, and texts that the table's spans spell in the literal
-- text. Every expression that is read from a table and its literal text is so.
use Rattle.std.specs.Prelude.{ℕ, ◌+◌, ◌^◌, ◌<◌, ◌≡◌, List, length}
use Rattle.std.specs.Int.Signed.{mag}
use Rattle.meaning.specs.Limits.{names}
use Rattle.meaning.specs.Value.{Scalar, null, bool, int, uint, double, string, bytes}
use Rattle.meaning.specs.Expr.{Expr, literal, name, unary, binary, conditional, select, list_of, map_of, comprehension, call, none_call, or_value, Elements, no_elements, element, marked_element, Pairs, no_pairs, pair, marked_pair}
use Rattle.rooms.specs.Rooms.{part}
use Rattle.table_layout.specs.Layout.{word_at}

module _ (table text : List ℕ) where
  -- an offset and a length that spell s
  pub record Spells (s : List ℕ) (offset size : ℕ) : Type 0 where
    pub long : size ≡ length s
    pub spelled : part text offset size ≡ s
    pub offset_fits : offset < 2 ^ 16
    pub size_fits : size < 2 ^ 16

  abbrev pub AcceptedLiteral : ℕ → Scalar → Type 0
  AcceptedLiteral p null = Unit {0}
  AcceptedLiteral p (bool b) = Unit {0}
  AcceptedLiteral p (int z) = mag z < 2 ^ 63
  AcceptedLiteral p (uint n) = n < 2 ^ 64
  AcceptedLiteral p (double d) = d < 2 ^ 64
  AcceptedLiteral p (string s) = Spells s (word_at table (p + 3)) (word_at table (p + 5))
  AcceptedLiteral p (bytes s) = Spells s (word_at table (p + 3)) (word_at table (p + 5))

  abbrev mutual
    pub Accepted : Expr → Type 0
    Accepted (literal p x) = AcceptedLiteral p x
    Accepted (name p n) = n < names
    Accepted (unary p o e) = Accepted e
    Accepted (binary p o e f) = Accepted e × Accepted f
    Accepted (conditional p c e f) = Accepted c × Accepted e × Accepted f
    Accepted (select p test field e) = Spells field (word_at table (p + 4)) (word_at table (p + 6)) × Accepted e
    Accepted (list_of p es) = AcceptedElements es
    Accepted (map_of p es) = AcceptedPairs es
    Accepted (comprehension p a i range init condition step result) =
        (a < names) × (i < names) × Accepted range × Accepted init × Accepted condition × Accepted step × Accepted result
    Accepted (call p f e) = Accepted e
    Accepted (none_call p) = Unit {0}
    Accepted (or_value p e f) = Accepted e × Accepted f

    pub AcceptedElements : Elements → Type 0
    AcceptedElements no_elements = Unit {0}
    AcceptedElements (element e es) = Accepted e × AcceptedElements es
    AcceptedElements (marked_element p e es) = Accepted e × AcceptedElements es

    pub AcceptedPairs : Pairs → Type 0
    AcceptedPairs no_pairs = Unit {0}
    AcceptedPairs (pair k e es) = Accepted k × Accepted e × AcceptedPairs es
    AcceptedPairs (marked_pair k p e es) = Accepted k × Accepted e × AcceptedPairs es
