-- The whole image: its length, and zeros and table laid one after the other.
use mathlib.Core.Path.{◌≡◌, ap, ◌∙◌}
use mathlib.Core.List.{List}
use Prim.Native.Nat.{ℕ, ◌+◌}
use native.Mathlib.Omega.{arith}
use lib.ListN.{length, length-append}
use Rattle.words.specs.Store.{put_at, zeros}
use Rattle.words.proofs.StoreLaws.{length-zeros}
use Rattle.layout.specs.Sizes.{header_size}
use Rattle.layout.specs.Limits.{deepest}
use Rattle.image.specs.Laid.{Laid}
use Rattle.write_parts.specs.Numbered.{numbered_bytes, numbered_image}
use Rattle.words.proofs.StoreLaws.{put_then}

module _ (filter : ℕ) (numbered arena : List ℕ) (root : ℕ) where
  pub length-image : length (numbered_image filter numbered arena root) ≡ header_size + length (numbered_bytes filter numbered arena deepest root header_size)
  unfolding numbered_image
  length-image = length-append (zeros 24) (numbered_bytes filter numbered arena 8 root 24) ∙ ap (λ (n : ℕ). n + length (numbered_bytes filter numbered arena 8 root 24)) (length-zeros 24)

  pub image_laid : (l : List ℕ) {m n : List ℕ} {end : ℕ} → m ≡ put_at l 0 (zeros header_size) → Laid m n header_size (numbered_bytes filter numbered arena deepest root header_size) end
      → n ≡ put_at l 0 (numbered_image filter numbered arena root)
  unfolding numbered_image
  image_laid l p laid = put_then l 0 (zeros 24) (numbered_bytes filter numbered arena 8 root 24) (omega (arith, length-zeros 24)) p laid.image_is
