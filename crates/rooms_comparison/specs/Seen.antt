-- What is seen of a value without looking into cells, and when two values without parts are equal.
use Rattle.std.specs.Prelude.{ℕ, List, Bool, true, false}
use Rattle.numbers.specs.Double.{bits_of}
use Rattle.numbers.specs.declared.order.Number.{Number}
use Rattle.meaning.specs.Value.{Scalar, null, bool, int, uint, double, string, bytes}
use Rattle.meaning.specs.Comparison.{scalar_equal}
use Rattle.rooms.specs.declared.value.Value.{Value}
use Rattle.rooms.specs.declared.value.Plain.{Plain}
use Rattle.rooms.specs.Value.{plain_of}
use Rattle.rooms.specs.Rooms.{Rooms, part, text_of}

-- what is seen of a value without looking into cells
pub data Seen : Type 0 where
  seen_scalar : Scalar → Seen
  seen_none : Seen
  seen_other : Seen

abbrev pub number_scalar : Number → Scalar
number_scalar (Number.Int z) = int z
number_scalar (Number.Uint n) = uint n
number_scalar (Number.Double d) = double (bits_of d)

-- in the three texts
abbrev pub seen_of : List ℕ → List ℕ → List ℕ → Plain → Seen
seen_of l b t Plain.Null = seen_scalar null
seen_of l b t (Plain.Bool x) = seen_scalar (bool x)
seen_of l b t (Plain.Number n) = seen_scalar (number_scalar n)
seen_of l b t (Plain.String sp) = seen_scalar (string (part (text_of l b t sp.space) sp.first sp.length))
seen_of l b t (Plain.Bytes sp) = seen_scalar (bytes (part (text_of l b t sp.space) sp.first sp.length))
seen_of l b t Plain.OptionalNone = seen_none
seen_of l b t Plain.Other = seen_other

abbrev pub seen_plain : Rooms → Plain → Seen
seen_plain r p = seen_of r.literal r.binding_text r.text p

abbrev pub same_seen : Seen → Seen → Bool
same_seen (seen_scalar x) (seen_scalar y) = scalar_equal x y
same_seen (seen_scalar x) seen_none = false
same_seen (seen_scalar x) seen_other = false
same_seen seen_none (seen_scalar y) = false
same_seen seen_none seen_none = true
same_seen seen_none seen_other = false
same_seen seen_other y = false

-- a value in rooms
unfoldable pub seen_in : Rooms → Value → Seen
seen_in r v = seen_of r.literal r.binding_text r.text (plain_of v)
