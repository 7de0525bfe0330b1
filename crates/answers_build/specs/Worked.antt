-- Each C answer by hand, one line for each case: what its fields mean.
use Rattle.std.specs.Prelude.{◌≡◌, refl, Ok, Err, Some, None}
use Rattle.layout.specs.declared.kind.Kind.{Kind}
use Rattle.layout.specs.declared.refusal.Refusal.{Refusal}
use Rattle.build_memory.specs.Answer.{started_number}
use Rattle.build_tables.specs.Answer.{added_number, added_table, counted_number, counted_items}
use Rattle.build_values.specs.Answer.{inserted_number, inserted_kind, inserted_at}
use Rattle.write.specs.Write.{written_number}
use Rattle.answers_build.specs.Building.{added_answer, inserted_answer, counted_answer}
use Rattle.answers_build.specs.Writing.{written_image, written_answer}

-- an empty builder; or 29
pub started : (started_number (Ok tt) ≡ 0) × (started_number (Err Refusal.MemoryBroken) ≡ 29)
unfolding started_number
started = (refl, refl)

-- table 9; or 27
pub added : (added_answer (Ok 9) ≡ record { number = 0; table = 9 }) × (added_answer (Err Refusal.TooManyTables) ≡ record { number = 27; table = 0 })
unfolding added_answer added_number added_table
added = (refl, refl)

-- a new key; a value ('v'), a table ('H') or a container ('L') replaced; 21; or 8 of a key that is bad at 3
pub inserted :
    (inserted_answer (Ok None) ≡ record { number = 0; replaced = 0; at = 0 })
    × (inserted_answer (Ok (Some Kind.Value)) ≡ record { number = 0; replaced = 118; at = 0 })
    × (inserted_answer (Ok (Some Kind.Table)) ≡ record { number = 0; replaced = 72; at = 0 })
    × (inserted_answer (Ok (Some Kind.Container)) ≡ record { number = 0; replaced = 76; at = 0 })
    × (inserted_answer (Err Refusal.NotContainer) ≡ record { number = 21; replaced = 0; at = 0 })
    × (inserted_answer (Err (Refusal.KeyNotUtf8 3)) ≡ record { number = 8; replaced = 0; at = 3 })
unfolding inserted_answer inserted_number inserted_kind inserted_at
inserted = (refl, refl, refl, refl, refl, refl)

-- 5 items; or 24
pub counted : (counted_answer (Ok 5) ≡ record { number = 0; count = 5 }) × (counted_answer (Err Refusal.TableUnknown) ≡ record { number = 24; count = 0 })
unfolding counted_answer counted_number counted_items
counted = (refl, refl)

-- a root table from 24 up to 88 in an image of 104 bytes; or 31
pub written :
    (written_answer (Ok (record { start = 24; end = 88; length = 104 })) ≡ record { number = 0; start = 24; end = 88; length = 104 })
    × (written_answer (Err Refusal.ImageTooLong) ≡ record { number = 31; start = 0; end = 0; length = 0 })
unfolding written_answer written_number written_image
written = (refl, refl)
