-- The numbered table of a builder's memory: what each of its words is, and that its tables are those that the memory means.
use Rattle.std.specs.Prelude.{ℕ, zero, suc, ◌+◌, ◌-◌, ◌≤◌, ◌<◌, ◌^◌, ◌≡◌, Bool, ◌&&◌, not, List, [], ◌∷◌, ◌++◌, eqb, ltb, length, get_or}
use Rattle.words.specs.Choice.{pick}
use Rattle.key_hash.specs.declared.hash.Form.{Form}
use Rattle.layout.specs.Item.{no_item}
use Rattle.layout.specs.Kind.{container_kind}
use Rattle.build_memory.specs.Memory.{item_total, item_table, key_start, key_size, item_parent, item_kind, value_start, value_size, item_guest, least_words}
use Rattle.image.specs.Fits.{SamePlan}
use Rattle.image.specs.Image.{plan_of}
use Rattle.layout.specs.Limits.{most_tables, most_items}
use Rattle.write_parts.specs.Numbered.{slots_from, children_from, numbered_size, slot_word, child_word, by_kind, numbered_plan, NumberedFits, SlotFits, first_slot, slot_size}
use Rattle.write_order.specs.Items.{hash_for}
use Rattle.write_numbers.specs.Roster.{state_of, item_index, bucket_word, roster_size}

-- every table of the numbered table agrees with the table that the memory means, whatever nested tables are laid as and however many filter words there are
pub record NumberedAs (rule : ℕ → ℕ) (ws ar numbered : List ℕ) : Type 0 where
  pub fits : NumberedFits numbered ar
  pub plans : (filter : ℕ) (inner : ℕ → ℕ → List ℕ) (t : ℕ) → t < most_tables
      → SamePlan (numbered_plan inner numbered ar filter t) (plan_of rule filter inner (state_of ws ar) (state_of ws ar t))

-- ---- children

-- of the first n items those with a parent word, in order of creation
unfoldable pub child_items : List ℕ → ℕ → ℕ → List ℕ
child_items ws parent zero = []
child_items ws parent (suc n) = child_items ws parent n ++ pick (eqb (item_parent ws n) parent) (n ∷ []) []

-- the item of a rank: the last item has rank 0
abbrev pub from_last : List ℕ → ℕ → ℕ
from_last ws p = item_total ws - 1 - p

-- the parent words by rank
abbrev pub Parents : List ℕ → List ℕ → Type 0
Parents ws hashes = (p : ℕ) → p < item_total ws → get_or hashes p 0 ≡ item_parent ws (from_last ws p)

-- the words of the firsts: one for each parent word, and one behind the last
abbrev pub firsts_size : ℕ
firsts_size = most_items + 2

-- the ranks in the order of their parents, and where those of each parent word start: siblings stand in order of creation
pub record Siblings (ws order firsts : List ℕ) : Type 0 where
  pub long : length order ≡ most_items
  pub wide : length firsts ≡ firsts_size
  pub inside : (j : ℕ) → j < item_total ws → get_or order j 0 < item_total ws
  pub next : (i : ℕ) → i < most_items → get_or firsts (i + 2) 0 ≡ get_or firsts (i + 1) 0 + length (child_items ws (i + 1) (item_total ws))
  pub few : (i : ℕ) → i < most_items → get_or firsts (i + 2) 0 ≤ item_total ws
  pub child : (i j : ℕ) → i < most_items → j < length (child_items ws (i + 1) (item_total ws))
      → from_last ws (get_or order (get_or firsts (i + 1) 0 + j) 0) ≡ get_or (child_items ws (i + 1) (item_total ws)) j 0

-- ---- the words of a numbered table

-- every word is 0
abbrev pub Clear : List ℕ → Type 0
Clear numbered = (k : ℕ) → k < numbered_size → get_or numbered k 0 ≡ 0

-- the head's words are the roster's; all else is 0
unfoldable pub start_word : List ℕ → ℕ → ℕ
start_word roster k = pick (ltb k slots_from) (get_or roster k 0) 0

pub record NumberedStart (roster numbered : List ℕ) : Type 0 where
  pub long : length numbered ≡ numbered_size
  pub is : (k : ℕ) → k < numbered_size → get_or numbered k 0 ≡ start_word roster k

-- the child words are the laid indices of the items of the ranks, as many as there are items; all else is as it was
pub record NumberedChildren (ws roster order before after : List ℕ) : Type 0 where
  pub long : length after ≡ length before
  pub is : (j : ℕ) → j < item_total ws → child_word after j ≡ item_index roster (from_last ws (get_or order j 0))
  pub kept : (k : ℕ) → k < children_from → get_or after k 0 ≡ get_or before k 0
  pub rest : (k : ℕ) → children_from + item_total ws ≤ k → get_or after k 0 ≡ get_or before k 0

-- item i is laid as a child: it has a parent, which is a container
unfoldable pub child_test : List ℕ → ℕ → Bool
child_test ws i = not (eqb (item_parent ws i) 0) && eqb (item_kind ws (item_parent ws i - 1)) container_kind

-- how many bytes of its key are its parent's
unfoldable pub skipped : List ℕ → ℕ → ℕ
skipped ws i = pick (child_test ws i) (key_size ws (item_parent ws i - 1)) 0

module _ (ws firsts : List ℕ) where
  -- by kind: value start, guest, or first child word; value length, nothing, or count of child words
  unfoldable pub start_of : ℕ → ℕ
  start_of i = by_kind (item_kind ws i) (value_start ws i) (item_guest ws i) (get_or firsts (i + 1) 0)

  unfoldable pub size_of : ℕ → ℕ
  size_of i = by_kind (item_kind ws i) (value_size ws i) 0 (get_or firsts (i + 2) 0 - get_or firsts (i + 1) 0)

module _ (ws roster : List ℕ) where
  unfoldable pub parent_word : ℕ → ℕ
  parent_word i = pick (child_test ws i) (item_index roster (item_parent ws i - 1)) no_item

  -- the slot of item i
  unfoldable pub slot_of : ℕ → ℕ
  slot_of i = first_slot roster (item_table ws i) + item_index roster i

  -- its parent was made earlier, and its slot is one that there is
  pub record Slotted (i : ℕ) : Type 0 where
    pub long : least_words ≤ length ws
    pub roster_long : length roster ≡ roster_size
    pub inside : i < most_items
    pub table : item_table ws i < most_tables
    pub earlier : item_parent ws i ≤ i
    pub shorter : skipped ws i ≤ key_size ws i
    pub key : key_start ws i + key_size ws i < 2 ^ 64
    pub within : slot_of i < most_items

  -- the words of its slot: four, the first of them its hash under a form, and four more
  unfoldable pub front_words : Form → List ℕ → ℕ → List ℕ
  front_words form ar i = hash_for form ws ar i ∷ parent_word i ∷ (key_start ws i + skipped ws i) ∷ (key_size ws i - skipped ws i) ∷ []

  module _ (firsts : List ℕ) where
    unfoldable pub back_words : ℕ → List ℕ
    back_words i = item_kind ws i ∷ start_of ws firsts i ∷ size_of ws firsts i ∷ bucket_word roster (slot_of i) ∷ []

    unfoldable pub slot_words : Form → List ℕ → ℕ → List ℕ
    slot_words form ar i = front_words form ar i ++ back_words i

-- `firsts` ascends, up to the count of the child words
pub record Firsts (firsts : List ℕ) : Type 0 where
  pub wide : length firsts ≡ firsts_size
  pub up : (i : ℕ) → i < most_items → get_or firsts (i + 1) 0 ≤ get_or firsts (i + 2) 0
  pub few : (i : ℕ) → i < most_items → get_or firsts (i + 2) 0 ≤ most_items

-- the slots of the first n items have their words, every slot can be laid, and all else is as it was
pub record NumberedSlots (form : Form) (ws ar roster firsts before after : List ℕ) (n : ℕ) : Type 0 where
  pub long : length after ≡ length before
  pub is : (i : ℕ) → i < n → (which : ℕ) → which < slot_size → slot_word after (slot_of ws roster i) which ≡ get_or (slot_words ws roster firsts form ar i) which 0
  pub fits : (s : ℕ) → s < most_items → SlotFits after ar s
  pub head : (k : ℕ) → k < slots_from → get_or after k 0 ≡ get_or before k 0
  pub tail : (k : ℕ) → children_from ≤ k → get_or after k 0 ≡ get_or before k 0
