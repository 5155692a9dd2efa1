-- Whether the fields of a record are right, by its kind and the numbers in them.
use Rattle.std.specs.Prelude.{ℕ, Bool, true, false, ◌&&◌, List, Option, None, Some}
use Rattle.std.specs.Prelude.{slice_get}
use Rattle.meaning.specs.Kinds.{ExprKind, null_kind, bool_kind, int_kind, uint_kind, double_kind, string_kind, bytes_kind, name_kind, unary_kind, binary_kind, conditional_kind, select_kind, list_kind, map_kind, comprehension_kind, function_kind, Kind, mark, expr, numbered, unaries, binaries, functions, flags, name_of}
use Rattle.meaning.specs.Heads.{first, second, third}
use Rattle.meaning.specs.Table.{span, utf8}

abbrev pub is_some : {A : Type 0} → Option A → Bool
is_some None = false
is_some (Some a) = true

abbrev pub expr_fits : List ℕ → ExprKind → List ℕ → Bool
expr_fits text null_kind ns = true
expr_fits text bool_kind ns = is_some (slice_get flags (first ns))
expr_fits text int_kind ns = true
expr_fits text uint_kind ns = true
expr_fits text double_kind ns = true
expr_fits text string_kind ns = is_some (utf8 (span text (first ns) (second ns)))
expr_fits text bytes_kind ns = is_some (span text (first ns) (second ns))
expr_fits text name_kind ns = is_some (name_of (first ns))
expr_fits text unary_kind ns = is_some (numbered unaries (first ns))
expr_fits text binary_kind ns = is_some (numbered binaries (first ns))
expr_fits text conditional_kind ns = true
expr_fits text select_kind ns = is_some (slice_get flags (first ns)) && is_some (utf8 (span text (second ns) (third ns)))
expr_fits text list_kind ns = true
expr_fits text map_kind ns = true
expr_fits text comprehension_kind ns = is_some (name_of (first ns)) && is_some (name_of (second ns))
expr_fits text function_kind ns = is_some (numbered functions (first ns))

-- whether the fields are right; a mark has none
unfoldable pub fields_fit : List ℕ → Kind → List ℕ → Bool
fields_fit text mark ns = true
fields_fit text (expr k) ns = expr_fits text k ns
