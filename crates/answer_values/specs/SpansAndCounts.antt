-- What is read off a value: where its text lies, and how many parts it has.
use Rattle.std.specs.Prelude.{ℕ, Option, None, Some}
use Rattle.rooms.specs.declared.value.Plain.{Plain}
use Rattle.rooms.specs.declared.value.Parts.{Parts}
use Rattle.rooms.specs.declared.value.Span.{Span}

abbrev pub span_in : Plain → Option Span
span_in Plain.Null = None
span_in (Plain.Bool b) = None
span_in (Plain.Number x) = None
span_in (Plain.String sp) = Some sp
span_in (Plain.Bytes sp) = Some sp
span_in Plain.OptionalNone = None
span_in Plain.Other = None

abbrev pub count_in : Parts → ℕ
count_in (Parts.Elements ro) = ro.length
count_in (Parts.Entries ro) = ro.length
count_in (Parts.Present s a) = 1
count_in Parts.Nothing = 0
