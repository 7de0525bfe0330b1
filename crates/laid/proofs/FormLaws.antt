-- Keys of ASCII bytes have one hash in both forms, so the items stand at the same indices, and every byte of the image is the same.
use mathlib.Core.Path.{◌≡◌, refl, ap, ◌∙◌}
use mathlib.Core.Bool.{true}
use mathlib.Core.List.{List, [], ◌∷◌, ◌++◌, map}
use Prim.Native.Nat.{ℕ, zero, suc}
use native.Mathlib.Omega.{arith}
use lib.ListN.{get_or}
use Rattle.words.specs.Choice.{pick}
use Rattle.words.specs.Store.{zeros}
use Rattle.key_hash.specs.Hash.{plain, signed, hash_by}
use Rattle.text.specs.Ascii.{is_ascii}
use Rattle.text.proofs.AsciiLaws.{ascii_hash}
use Rattle.layout.specs.Item.{no_item}
use Rattle.layout.specs.Kind.{kind_byte}
use Rattle.layout.specs.Limits.{deepest}
use Rattle.layout.specs.Sizes.{header_size}
use Rattle.model.specs.Table.{Content, Rows, State, Has, is_child, fragment_at, kind_of}
use Rattle.image.specs.Index.{key_order, hashes_of, bucket_start, by_bucket, by_index, item_of, index_in, laid_index}
use Rattle.image.specs.Plan.{word}
use Rattle.image.specs.Image.{align_of, children_of, parent_index, child_words, value_of, covers_of, plan_of, table_bytes, image_of}
use Rattle.image.specs.Fits.{SamePlan}
use Rattle.image.specs.WellFormed.{WellFormed, Writable}
use Rattle.image.proofs.TimesLaws.{times_here, times_cons}
use Rattle.image.proofs.OrderLaws.{times_order}
use Rattle.image.proofs.IndexLaws.{item_within}
use Rattle.image.proofs.SameLaws.{plan_same}
use Rattle.laid.specs.Forms.{AsciiBelow, AsciiImage}

map_same : (f g : ℕ → ℕ) (l : List ℕ) → ((x : ℕ) → Has l x → f x ≡ g x) → map f l ≡ map g l
map_same f g [] same = refl
map_same f g (x ∷ l) same =
    let head : f x ≡ g x = same x (omega (arith, times_here x x l refl)) in
    let rest : map f l ≡ map g l = map_same f g l (λ y h. same y (omega (arith, times_cons y x l))) in
    cc

module _ (table : Rows) (low : (i : ℕ) → Has table.members i → is_ascii (table.key i) ≡ true) where
  hashes_alike : hashes_of signed table ≡ hashes_of plain table
  unfolding hashes_of
  hashes_alike =
      map_same (λ (i : ℕ). hash_by signed (table.key i)) (λ (i : ℕ). hash_by plain (table.key i)) (key_order table)
      (λ x h. ascii_hash (table.key x) (low x (rw (times_order table x) at h)))

  index_alike : by_index signed table ≡ by_index plain table
  unfolding by_index
  index_alike = ap (λ (l : List ℕ). map (λ (place : ℕ). get_or (key_order table) place 0) (by_bucket l)) hashes_alike

  item_alike : (k : ℕ) → item_of signed table k ≡ item_of plain table k
  unfolding item_of
  item_alike k = ap (λ (l : List ℕ). get_or l k 0) index_alike

  laid_alike : (i : ℕ) → laid_index signed table i ≡ laid_index plain table i
  unfolding laid_index
  laid_alike i = ap (λ (l : List ℕ). index_in l i) index_alike

  parent_alike : (i : ℕ) → parent_index signed table i ≡ parent_index plain table i
  unfolding parent_index
  parent_alike i = ap (λ (n : ℕ). pick (is_child table i) n no_item) (laid_alike (table.above i))

  words_alike : (l : List ℕ) → child_words signed table l ≡ child_words plain table l
  unfolding child_words
  words_alike [] = refl
  words_alike (c ∷ l) = ap (λ (n : ℕ). word n ++ child_words signed table l) (laid_alike c) ∙ ap (λ (m : List ℕ). word (laid_index plain table c) ++ m) (words_alike l)

  module _ (filter : ℕ) (f g : ℕ → ℕ → List ℕ) (state : State) where
    value_alike : (i : ℕ) (c : Content) (at : ℕ) → ((u : ℕ) → c ≡ Content.nested u → f u at ≡ g u at) → value_of signed filter f state table i c at ≡ value_of plain filter g state table i c at
    unfolding value_of
    value_alike i (Content.bytes value) at inner = refl
    value_alike i (Content.nested u) at inner = inner u refl
    value_alike i Content.container at inner = words_alike (children_of table i)

    covers_alike : (i : ℕ) (c : Content) → covers_of signed filter f state table i c ≡ covers_of plain filter g state table i c
    unfolding covers_of
    covers_alike i (Content.bytes value) = refl
    covers_alike i (Content.nested u) = refl
    covers_alike i Content.container = refl

    plan_alike : WellFormed table → ((i u at : ℕ) → Has table.members i → table.content i ≡ Content.nested u → f u at ≡ g u at)
        → SamePlan (plan_of signed filter f state table) (plan_of plain filter g state table)
    unfolding plan_of
    plan_alike well inner = record {
      count = refl;
      filter = refl;
      first = λ b l. ap (λ (h : List ℕ). bucket_start h b) hashes_alike;
      hash = λ k l. ap (λ (i : ℕ). hash_by signed (table.key i)) (item_alike k) ∙ ascii_hash (table.key (item_of plain table k)) (low (item_of plain table k) (item_within plain table well.once k l));
      parent = λ k l. ap (parent_index signed table) (item_alike k) ∙ parent_alike (item_of plain table k);
      fragment = λ k l. ap (fragment_at table) (item_alike k);
      kind = λ k l. ap (λ (i : ℕ). kind_byte (kind_of (table.content i))) (item_alike k);
      align = λ k l. ap (λ (i : ℕ). align_of (table.content i)) (item_alike k);
      value = λ k at l. ap (λ (i : ℕ). value_of signed filter f state table i (table.content i) at) (item_alike k)
          ∙ value_alike (item_of plain table k) (table.content (item_of plain table k)) at (λ u e. inner (item_of plain table k) u at (item_within plain table well.once k l) e);
      covers = λ k l. ap (λ (i : ℕ). covers_of signed filter f state table i (table.content i)) (item_alike k)
          ∙ covers_alike (item_of plain table k) (table.content (item_of plain table k));
    }

tables_alike : (filter : ℕ) (state : State) (d t at : ℕ) → Writable state d t → AsciiBelow state d t → table_bytes signed filter state d t at ≡ table_bytes plain filter state d t at
unfolding table_bytes Writable AsciiBelow
tables_alike filter state zero t at good low = refl
tables_alike filter state (suc d) t at good low =
    let f : ℕ → ℕ → List ℕ = λ u start. table_bytes signed filter state d u start in
    let g : ℕ → ℕ → List ℕ = λ u start. table_bytes plain filter state d u start in
    plan_same (plan_of signed filter f state (state t)) (plan_of plain filter g state (state t))
    (plan_alike (state t) low.0 filter f g state good.0 (λ i u start has is. tables_alike filter state d u start (good.1 i u has is) (low.1 i u has is))) at

pub ascii_image : AsciiImage
unfolding image_of
ascii_image filter state t good low = ap (λ (bytes : List ℕ). zeros header_size ++ bytes) (tables_alike filter state deepest t header_size good low)
