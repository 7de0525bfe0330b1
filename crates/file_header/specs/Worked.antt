-- The header of a file whose root table stands from 24 to 60, byte by byte, in both byte orders.
use Rattle.std.specs.Prelude.{◌≡◌, refl, [], ◌∷◌}
use Rattle.words.specs.Field.{spelled}
use Rattle.file_header.specs.declared.header.ByteOrder.{ByteOrder}
use Rattle.file_header.specs.Header.{signature, header_bytes}

pub little : header_bytes ByteOrder.Little 24 60
    ≡ 0x47 ∷ 0x56 ∷ 0x61 ∷ 0x72 ∷ 0x69 ∷ 0x61 ∷ 0x6E ∷ 0x74 ∷ 0 ∷ 0 ∷ 0 ∷ 0 ∷ 0 ∷ 0 ∷ 0 ∷ 0 ∷ 0x18 ∷ 0 ∷ 0 ∷ 0 ∷ 0x3C ∷ 0 ∷ 0 ∷ 0 ∷ []
unfolding header_bytes signature spelled
little = refl

pub big : header_bytes ByteOrder.Big 24 60
    ≡ 0x72 ∷ 0x61 ∷ 0x56 ∷ 0x47 ∷ 0x74 ∷ 0x6E ∷ 0x61 ∷ 0x69 ∷ 0 ∷ 0 ∷ 0 ∷ 0 ∷ 0 ∷ 0 ∷ 0 ∷ 0 ∷ 0x18 ∷ 0 ∷ 0 ∷ 0 ∷ 0x3C ∷ 0 ∷ 0 ∷ 0 ∷ []
unfolding header_bytes signature spelled
big = refl
