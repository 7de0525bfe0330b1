-- Chains through link words, of ranks or of items, and the bucket words in a list.
use Rattle.std.specs.Prelude.{◌≡◌, ℕ, ◌+◌, ◌<◌, ◌≤◌, List, [], ◌∷◌, eqb, length, get_or, set, take, drop}
use Rattle.words.specs.Choice.{pick}
use Rattle.words.specs.Store.{part, put_at}
use Rattle.layout.specs.Limits.{most_items}
use Rattle.layout.specs.Item.{no_item}
use Rattle.model.specs.Table.{times, Has}
use Rattle.key_hash.specs.declared.hash.Form.{Form}
use Rattle.build_memory.specs.Memory.{links_from, least_words, key_of}
use Rattle.build_memory.specs.Meaning.{listed}
use Rattle.image.specs.Index.{run, bucket_start}
use Rattle.write_order.specs.Fall.{falling, last_above, in_bucket, joined}
use Rattle.write_order.specs.Items.{hash_for}

-- the words of all buckets
unfoldable pub starts : List ℕ → List ℕ
starts hashes = listed (bucket_start hashes) (length hashes)

-- every word is `no_item`
unfoldable pub Empty : List ℕ → Type 0
Empty words = (i : ℕ) → i < length words → get_or words i 0 ≡ no_item

-- every word from n on is `no_item`
unfoldable pub EmptyFrom : ℕ → List ℕ → Type 0
EmptyFrom n words = (i : ℕ) → n ≤ i → i < length words → get_or words i 0 ≡ no_item

-- from h, through the links, the ranks or items l and then the empty mark
unfoldable pub Chain : List ℕ → ℕ → List ℕ → Type 0
Chain links h [] = h ≡ no_item
Chain links h (x ∷ l) = (h ≡ x) × (x < length links) × (x < no_item) × Chain links (get_or links x 0) l

-- every bucket's chain holds its run of the ranks below k
unfoldable pub Chained : List ℕ → ℕ → List ℕ → List ℕ → Type 0
Chained hashes k heads links = (b : ℕ) → b < length hashes → Chain links (get_or heads b 0) (run hashes b k)

-- the links with the empty mark at each of l
unfoldable pub cleared : List ℕ → List ℕ → List ℕ
cleared links [] = links
cleared links (x ∷ l) = cleared (set links x no_item) l

-- a chain starts at h that has nothing twice, and `room` words have room for it from `at` on
pub record Ended (links : List ℕ) (h room at : ℕ) : Type 0 where
  pub places : List ℕ
  pub chain : Chain links h places
  pub once : (x : ℕ) → times x places ≤ 1
  pub fits : at + length places ≤ room

-- l is in `order` from `at` on, and its links are cleared
pub record DrainedOf (links links' order order' : List ℕ) (at end : ℕ) (l : List ℕ) : Type 0 where
  pub end_is : end ≡ at + length l
  pub order_is : order' ≡ put_at order at l
  pub links_is : links' ≡ cleared links l

-- the same for whatever the chain from h holds
unfoldable pub Drained : List ℕ → List ℕ → List ℕ → List ℕ → ℕ → ℕ → ℕ → Type 0
Drained links links' order order' h at end = (l : List ℕ) → Chain links h l → DrainedOf links links' order order' at end l

-- n chains from the first heads, one for each list: no list shares an item with another, and the link of an item of none is empty
pub record Chains (lists : ℕ → List ℕ) (n : ℕ) (heads links : List ℕ) : Type 0 where
  pub chain : (b : ℕ) → b < n → Chain links (get_or heads b 0) (lists b)
  pub once : (b x : ℕ) → times x (lists b) ≤ 1
  pub apart : (b d x : ℕ) → (b ≡ d → ⊥) → Has (lists b) x → times x (lists d) ≡ 0
  pub clear : (x : ℕ) → x < length links → ((b : ℕ) → b < n → times x (lists b) ≡ 0) → get_or links x 0 ≡ no_item
  pub few : length (joined lists n) ≤ n

-- there are such lists
pub record HasChains (n : ℕ) (heads links : List ℕ) : Type 0 where
  pub lists : ℕ → List ℕ
  pub chains : Chains lists n heads links

-- the lists of n chains are in `order`, one behind the other, and where each starts is in `firsts`
pub record Indexed (lists : ℕ → List ℕ) (n : ℕ) (order order' firsts firsts' : List ℕ) : Type 0 where
  pub order_is : order' ≡ put_at order 0 (joined lists n)
  pub firsts_is : firsts' ≡ put_at firsts 0 (listed (λ (b : ℕ). length (joined lists b)) n)

-- room for n items, of which there are not too many
pub record Rooms (n : ℕ) (order firsts : List ℕ) : Type 0 where
  pub few : n ≤ most_items
  pub in_order : n ≤ length order
  pub in_firsts : n ≤ length firsts

-- ---- chains of items, through the links of a builder's words

abbrev pub links_of : List ℕ → List ℕ
links_of words = part words links_from most_items

-- words that differ in their links alone
unfoldable pub ButLinks : List ℕ → List ℕ → Type 0
ButLinks words words' = (take links_from words' ≡ take links_from words) × (drop least_words words' ≡ drop least_words words)

-- a chain starts at h, which is not too long
pub record Bounded (links : List ℕ) (h : ℕ) : Type 0 where
  pub items : List ℕ
  pub chain : Chain links h items
  pub few : length items ≤ most_items

-- item i put behind item `last` of the chain from `head`, or at its front
unfoldable pub linked : List ℕ → ℕ → ℕ → ℕ → List ℕ
linked links head last i = pick (eqb last no_item) (set links i head) (set (set links i (get_or links last 0)) last i)

unfoldable pub headed : List ℕ → ℕ → ℕ → ℕ → List ℕ
headed heads b last i = pick (eqb last no_item) (set heads b i) heads

-- whatever the chain of bucket b holds, item i is put into it at the place of its key
unfoldable pub Placed : (ℕ → List ℕ) → List ℕ → List ℕ → ℕ → ℕ → List ℕ → List ℕ → Type 0
Placed key links heads b i links' heads' =
    (l : List ℕ) → Chain links (get_or heads b 0) l
    → (links' ≡ linked links (get_or heads b 0) (last_above key i no_item l) i) × (heads' ≡ headed heads b (last_above key i no_item l) i)

-- those of the first k members that are in bucket b, by falling keys; there are as many buckets as members
unfoldable pub chain_of : Form → List ℕ → List ℕ → List ℕ → ℕ → ℕ → List ℕ
chain_of form words arena members k b = falling (key_of words arena) (in_bucket (hash_for form words arena) (length members) b) members k

-- every bucket's chain holds its items of the first k members, and the link of any other item is empty
pub record ChainedBy (form : Form) (words arena members : List ℕ) (k : ℕ) (heads links : List ℕ) : Type 0 where
  pub chain : (b : ℕ) → b < length members → Chain links (get_or heads b 0) (chain_of form words arena members k b)
  pub clear : (x : ℕ) → x < length links → times x (take k members) ≡ 0 → get_or links x 0 ≡ no_item
