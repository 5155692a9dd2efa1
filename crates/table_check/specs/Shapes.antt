-- A record's shape: the numbers in its fields, how many operands it has, and its head. Stated by the definition's kinds, fields and words.
use Rattle.std.specs.Prelude.{ℕ, ◌+◌, ◌*◌, Bool, cond, List, [], ◌∷◌, eqb, leb, get_or, Option, None, Some, Result, Ok, Err}
use Rattle.meaning.specs.Errors.{refusal_at}
use Rattle.meaning.specs.declared.refusal.Refusal.{Refusal}
use Rattle.meaning.specs.Kinds.{ExprKind, null_kind, bool_kind, int_kind, uint_kind, double_kind, string_kind, bytes_kind, name_kind, unary_kind, binary_kind, conditional_kind, select_kind, list_kind, map_kind, comprehension_kind, function_kind, Kind, mark, expr, byte, word, numbered, Called, to_one, to_none, to_two, functions}
use Rattle.meaning.specs.Heads.{Got, got, refused, first, fields_bytes, numbers_at, head_at}
use Rattle.meaning.specs.Heads as heads
use Rattle.meaning.specs.Table.{word_bytes}
use Rattle.table_layout.specs.Layout.{row_of}
use Rattle.table_layout.specs.Kinds.{kind_of}
use Rattle.table_check.specs.declared.heads.Head.{Head}

-- the numbers in the fields of the record at a place, by its kind byte
unfoldable pub numbers_of : List ℕ → ℕ → ℕ → List ℕ
numbers_of t p b = numbers_at word_bytes t (row_of b).fields (p + fields_bytes word_bytes (byte ∷ word ∷ []))

-- ---- operands

-- an unknown function has one, which is not read
abbrev pub called_count : Option Called → ℕ
called_count None = 1
called_count (Some (to_one f)) = 1
called_count (Some to_none) = 0
called_count (Some to_two) = 2

abbrev pub expr_count : ExprKind → List ℕ → ℕ
expr_count null_kind ns = 0
expr_count bool_kind ns = 0
expr_count int_kind ns = 0
expr_count uint_kind ns = 0
expr_count double_kind ns = 0
expr_count string_kind ns = 0
expr_count bytes_kind ns = 0
expr_count name_kind ns = 0
expr_count unary_kind ns = 1
expr_count binary_kind ns = 2
expr_count conditional_kind ns = 3
expr_count select_kind ns = 1
expr_count list_kind ns = first ns
expr_count map_kind ns = 2 * first ns
expr_count comprehension_kind ns = 5
expr_count function_kind ns = called_count (numbered functions (first ns))

-- how many operands a record has
unfoldable pub count_of : Kind → List ℕ → ℕ
count_of mark ns = 1
count_of (expr k) ns = expr_count k ns

-- without operands the extent is exactly the head; with operands it is at least the head
abbrev pub fits_extent : (count head extent : ℕ) → Bool
fits_extent count head extent = cond (eqb count 0) (eqb extent head) (leb head extent)

-- ---- what is read of a head

abbrev pub seen : ℕ → Got heads.Head → Result Head Refusal
seen b (got h) = Ok (record { kind = kind_of b; count = count_of h.kind h.numbers; first = h.operands_at; after = h.end })
seen b (refused r p) = Err (refusal_at r p)

unfoldable pub head_of : List ℕ → ℕ → ℕ → Result Head Refusal
head_of t p end = seen (get_or t p 0) (head_at word_bytes t p end)
