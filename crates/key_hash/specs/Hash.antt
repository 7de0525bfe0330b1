-- The hash of a key, from document 01, "Layout of a table". The rule for a byte is a parameter, so that laws are stated once for
-- every rule.
use Rattle.std.specs.Prelude.{ℕ, ◌+◌, ◌*◌, ◌%◌, ◌^◌, List, [], ◌∷◌, nat_lt}
use Rattle.words.specs.Choice.{pick}
use Rattle.key_hash.specs.declared.hash.Form.{Form}

-- one byte more: times 33 plus what the byte counts, modulo 2^32
abbrev pub hash_step : (ℕ → ℕ) → ℕ → ℕ → ℕ
hash_step rule h b = (h * 33 + rule b) % 2 ^ 32

-- the hash of the bytes, going on from h
unfoldable pub hash_from : (ℕ → ℕ) → ℕ → List ℕ → ℕ
hash_from rule h [] = h
hash_from rule h (b ∷ bytes) = hash_from rule (hash_step rule h b) bytes

unfoldable pub hash_by : (ℕ → ℕ) → List ℕ → ℕ
hash_by rule bytes = hash_from rule 5381 bytes

-- the Rust's rule: a byte counts 0 to 255
abbrev pub plain : ℕ → ℕ
plain b = b

-- GLib's rule: a byte counts -128 to 127. Modulo 2^32 a byte from 128 on counts 2^32 - 256 more than it is
unfoldable pub signed : ℕ → ℕ
signed b = pick (nat_lt b 128) b (b + 4294967040)

-- the rule of a form
abbrev pub rule_of : Form → ℕ → ℕ
rule_of Form.Plain = plain
rule_of Form.Signed = signed

abbrev pub hash_of : List ℕ → ℕ
hash_of = hash_by plain
