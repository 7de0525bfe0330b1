-- Numbers by hand that the definitions compute.
use Rattle.std.specs.Prelude.{◌≡◌, refl, true, false}
use Rattle.words.specs.Bits.{bloom_count, bloom_shift, bit_set}

-- a first word: 27 bits count, five are the shift
pub counts : (bloom_count 0x07FFFFFF ≡ 134217727) × (bloom_count 0x08000000 ≡ 0) × (bloom_count 0xFFFFFFFF ≡ 134217727)
unfolding bloom_count
counts = (refl, refl, refl)

pub shifts : (bloom_shift 0x07FFFFFF ≡ 0) × (bloom_shift 0x28000000 ≡ 5) × (bloom_shift 0xFFFFFFFF ≡ 31)
unfolding bloom_shift
shifts = (refl, refl, refl)

-- bits are counted from the lowest
pub bits : (bit_set 0x80000001 0 ≡ true) × (bit_set 0x80000001 1 ≡ false) × (bit_set 0x80000001 31 ≡ true)
unfolding bit_set
bits = (refl, refl, refl)
