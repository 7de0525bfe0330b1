-- The limits and kinds of documents 01 and 02 by hand, once more: what a change of one of them alone does not keep.
use Rattle.std.specs.Prelude.{◌≡◌, refl, true, false}
use Rattle.layout.specs.Limits.{longest_file, longest_key, most_items, most_tables, deepest, most_filter}
use Rattle.layout.specs.Kind.{kind_known}

pub limits : (longest_file ≡ 16777216) × (longest_key ≡ 1024) × (most_items ≡ 1024) × (most_tables ≡ 64) × (deepest ≡ 8) × (most_filter ≡ 1024)
limits = (refl, refl, refl, refl, refl, refl)

-- 'v', 'H', 'L' and no other: not 'V', 'h' and 'l', not 0, and not 99, which a dconf database of an empty folder has in an item that holds nothing
pub kinds : (kind_known 118 ≡ true) × (kind_known 72 ≡ true) × (kind_known 76 ≡ true)
    × (kind_known 86 ≡ false) × (kind_known 104 ≡ false) × (kind_known 108 ≡ false) × (kind_known 0 ≡ false) × (kind_known 99 ≡ false)
kinds = (refl, refl, refl, refl, refl, refl, refl, refl)
