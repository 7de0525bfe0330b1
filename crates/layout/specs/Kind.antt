-- The kinds of document 01, 'Layout of a table': 'v', 'H', 'L'.
use Rattle.std.specs.Prelude.{ℕ, Bool, ◌||◌, eqb}
use Rattle.layout.specs.declared.kind.Kind.{Kind}

abbrev pub value_kind : ℕ
value_kind = 118

abbrev pub table_kind : ℕ
table_kind = 72

abbrev pub container_kind : ℕ
container_kind = 76

abbrev pub kind_byte : Kind → ℕ
kind_byte Kind.Value = value_kind
kind_byte Kind.Table = table_kind
kind_byte Kind.Container = container_kind

-- whether a byte is that of a kind
abbrev pub kind_known : ℕ → Bool
kind_known byte = eqb byte value_kind || (eqb byte table_kind || eqb byte container_kind)
