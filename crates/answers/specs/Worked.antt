-- Each C answer by hand, one line for each case: what its fields mean.
use Rattle.std.specs.Prelude.{◌≡◌, refl, Ok, Err}
use Rattle.words.specs.Choice.{pick}
use Rattle.file_header.specs.declared.header.ByteOrder.{ByteOrder}
use Rattle.file_header.specs.Answer.{headed_number, headed_order, headed_pointer, header_laid_number}
use Rattle.answers.specs.Header.{order_of, headed_answer}
use Rattle.layout.specs.declared.refusal.Refusal.{Refusal}
use Rattle.layout.specs.Answer.{opened_number}
use Rattle.read.specs.declared.layered.Source.{Source}
use Rattle.read.specs.Layered.{marked}
use Rattle.read_listing.specs.declared.listing.Valued.{Valued}
use Rattle.read.specs.Answer.{looked_number, looked_pointer, looked_at}
use Rattle.read_listing.specs.Answer.{listed_number, listed_key, listed_at, valued_number, valued_pointer, valued_item, childed_number, childed_kind, childed_pointer, childed_child, childed_at}
use Rattle.check_rules.specs.declared.checked.Checked.{Checked}
use Rattle.check_rules.specs.Answer.{checked_number, checked_rule, checked_item, checked_why, checked_at}
use Rattle.answers.specs.Reading.{opened_count, opened_answer, looked_answer, layered_answer, listed_answer, valued_answer, childed_answer}
use Rattle.answers.specs.Checking.{checked_answer}

-- a table at 24 with 4 items in 3 buckets and 2 bloom words; or 7
pub opened :
    (opened_answer (Ok (record { start = 24; blooms = 2; buckets = 3; items = 52; count = 4 })) ≡ record { number = 0; items = 4; buckets = 3; blooms = 2 })
    × (opened_answer (Err Refusal.ItemsUneven) ≡ record { number = 7; items = 0; buckets = 0; blooms = 0 })
unfolding opened_answer opened_number opened_count
opened = (refl, refl)

-- a pointer from 64 up to 66; 12; or 8 of a key that is bad at 3
pub looked :
    (looked_answer (Ok (record { start = 64; end = 66 })) ≡ record { number = 0; start = 64; end = 66; at = 0 })
    × (looked_answer (Err Refusal.KeyNotFound) ≡ record { number = 12; start = 0; end = 0; at = 0 })
    × (looked_answer (Err (Refusal.KeyNotUtf8 3)) ≡ record { number = 8; start = 0; end = 0; at = 3 })
unfolding looked_answer looked_number looked_pointer looked_at
looked = (refl, refl, refl)

-- a pointer into the owner's file, from 64 up to 66; one into the district's; 13 of the owner's table; 12 of the district's; or 8 of a key that is bad at 3
pub layered :
    (layered_answer (marked (Ok (record { start = 64; end = 66 })) Source.Owner) ≡ record { number = 0; from = 0; start = 64; end = 66; at = 0 })
    × (layered_answer (marked (Ok (record { start = 64; end = 66 })) Source.District) ≡ record { number = 0; from = 1; start = 64; end = 66; at = 0 })
    × (layered_answer (marked (Err Refusal.OtherKind) Source.Owner) ≡ record { number = 13; from = 0; start = 0; end = 0; at = 0 })
    × (layered_answer (marked (Err Refusal.KeyNotFound) Source.District) ≡ record { number = 12; from = 1; start = 0; end = 0; at = 0 })
    × (layered_answer (marked (Err (Refusal.KeyNotUtf8 3)) Source.Owner) ≡ record { number = 8; from = 0; start = 0; end = 0; at = 3 })
unfolding layered_answer looked_number looked_pointer looked_at
layered = (refl, refl, refl, refl, refl)

-- a key of 5 bytes, the next at 8; 14; or 9 of a fragment that is bad at 2
pub listed :
    (listed_answer (Ok (record { size = 5; next = record { at = 8 } })) ≡ record { number = 0; length = 5; next = 8; at = 0 })
    × (listed_answer (Err Refusal.BufferTooShort) ≡ record { number = 14; length = 0; next = 0; at = 0 })
    × (listed_answer (Err (Refusal.FragmentNotUtf8 2)) ≡ record { number = 9; length = 0; next = 0; at = 2 })
unfolding listed_answer listed_number listed_key listed_at
listed = (refl, refl, refl)

-- the value of item 7, from 64 up to 66, the next at 8; 3 of its pointer, with item and next; or 15
pub valued :
    (valued_answer (Valued.Value 7 64 66 (record { at = 8 })) ≡ record { number = 0; start = 64; end = 66; index = 7; next = 8 })
    × (valued_answer (Valued.Unopened Refusal.Misaligned 7 (record { at = 8 })) ≡ record { number = 3; start = 0; end = 0; index = 7; next = 8 })
    × (valued_answer (Valued.Refused Refusal.PastTheLast) ≡ record { number = 15; start = 0; end = 0; index = 0; next = 0 })
unfolding valued_answer valued_number valued_pointer valued_item
valued = (refl, refl, refl)

-- item 7 of kind 'v', its fragment from 64 up to 66, the next at 1; 15; or 9 of a fragment that is bad at 2
pub childed :
    (childed_answer (Ok (record { index = 7; kind = 118; start = 64; end = 66; next = record { at = 1 } })) ≡ record { number = 0; kind = 118; start = 64; end = 66; index = 7; next = 1; at = 0 })
    × (childed_answer (Err Refusal.PastTheLast) ≡ record { number = 15; kind = 0; start = 0; end = 0; index = 0; next = 0; at = 0 })
    × (childed_answer (Err (Refusal.FragmentNotUtf8 2)) ≡ record { number = 9; kind = 0; start = 0; end = 0; index = 0; next = 0; at = 2 })
unfolding childed_answer childed_number childed_kind childed_pointer childed_child childed_at
childed = (refl, refl, refl)

-- sound; item 7 breaks rule 5; item 7 breaks rule 1, for a fragment that is bad at 2, or for its parent; or 4
pub checked :
    (checked_answer Checked.Sound ≡ record { number = 0; rule = 0; item = 0; why = 0; at = 0 })
    × (checked_answer (Checked.Broken 5 7) ≡ record { number = 40; rule = 5; item = 7; why = 0; at = 0 })
    × (checked_answer (Checked.Unlisted (Refusal.FragmentNotUtf8 2) 7) ≡ record { number = 40; rule = 1; item = 7; why = 9; at = 2 })
    × (checked_answer (Checked.Unlisted Refusal.ParentOutside 7) ≡ record { number = 40; rule = 1; item = 7; why = 10; at = 0 })
    × (checked_answer (Checked.Refused Refusal.TableTooShort) ≡ record { number = 4; rule = 0; item = 0; why = 0; at = 0 })
unfolding checked_answer checked_number checked_rule checked_item checked_why checked_at
checked = (refl, refl, refl, refl, refl)

-- a header of a big-endian file whose root table stands from 24 up to 60; or 1, 16, 17, 19, with all else 0
pub headed :
    (headed_answer (Ok (record { order = ByteOrder.Little; start = 24; end = 60 })) ≡ record { number = 0; big = 0; start = 24; end = 60 })
    × (headed_answer (Ok (record { order = ByteOrder.Big; start = 24; end = 60 })) ≡ record { number = 0; big = 1; start = 24; end = 60 })
    × (headed_answer (Err Refusal.FileTooLong) ≡ record { number = 1; big = 0; start = 0; end = 0 })
    × (headed_answer (Err Refusal.HeaderTooShort) ≡ record { number = 16; big = 0; start = 0; end = 0 })
    × (headed_answer (Err Refusal.SignatureUnknown) ≡ record { number = 17; big = 0; start = 0; end = 0 })
    × (headed_answer (Err Refusal.VersionUnknown) ≡ record { number = 19; big = 0; start = 0; end = 0 })
unfolding headed_answer headed_number headed_order headed_pointer
headed = (refl, refl, refl, refl, refl, refl)

-- a header that was laid; or 1, 16
pub header_laid_lem : (header_laid_number (Ok tt) ≡ 0) × (header_laid_number (Err Refusal.FileTooLong) ≡ 1) × (header_laid_number (Err Refusal.HeaderTooShort) ≡ 16)
unfolding header_laid_number
header_laid_lem = (refl, refl, refl)

-- the order that a number names: 0 little, every other big
pub orders : (order_of 0 ≡ ByteOrder.Little) × (order_of 1 ≡ ByteOrder.Big) × (order_of 256 ≡ ByteOrder.Big)
unfolding order_of pick
orders = (refl, refl, refl)
