-- Laws of the chains of all buckets, by falling keys: one item more, and what is taken out of them.
use mathlib.Core.Path.{◌≡◌, refl, sym, ap, ◌∙◌}
use mathlib.Core.Logic.{⊎_elim}
use mathlib.Core.List.{List, [], ◌∷◌}
use Prim.Native.Nat.{ℕ, suc, ◌+◌, ◌≤◌, ◌<◌, ◌%◌}
use native.Mathlib.Omega.{arith}
use borrow.Author.Tests.{eq-eqb, ne_eqb}
use lib.ListN.{length, get_or, take, drop, length-map}
use lib.Seq.{take-suc, take-length}
use native.Mathlib.Nat.{mod-lt}
use Rattle.words.specs.Choice.{pick}
use Rattle.words.specs.Store.{put_at}
use Rattle.words.proofs.ChoiceLaws.{eq_or_ne, lt_or_ge}
use Rattle.key_hash.specs.declared.hash.Form.{Form}
use Rattle.layout.specs.Limits.{most_items}
use Rattle.layout.specs.Item.{no_item}
use Rattle.model.specs.Table.{times, Has}
use Rattle.build_memory.specs.Memory.{key_of}
use Rattle.build_memory.specs.Meaning.{listed}
use Rattle.image.specs.Index.{runs_below, by_bucket, bucket_start}
use Rattle.image.proofs.RunLaws.{start-most}
use Rattle.image.proofs.TimesLaws.{times_here, times-append, times_some, has_cases, index_stands}
use Rattle.write_order.specs.Fall.{put_falling, falling, last_above, in_bucket, joined}
use Rattle.write_order.specs.Key.{keyed}
use Rattle.write_order.specs.Items.{hash_for, hashes_in, by_rank, rank_hashes, items_at}
use Rattle.write_order.specs.Chain.{Chain, Empty, Chains, Indexed, Placed, chain_of, ChainedBy, linked, headed, starts}
use Rattle.write_order.proofs.KeyLaws.{length-keyed, times_halves}
use Rattle.write_order.proofs.FallLaws.{length-falling, times_taken, times_left, joined_runs, joined-starts}
use Rattle.write_order.proofs.ChainLaws.{starts_of}
use Rattle.write_order.proofs.PlaceLaws.{length-linked, linked_same, linked_chain, linked_other, headed_other, above_same, above_has}

module _ (form : Form) (ws ar members : List ℕ) where
  -- the bucket of an item
  abbrev bucket : ℕ → ℕ
  bucket i = hash_for form ws ar i % length members

  -- ---- the items of one bucket

  module _ (k b : ℕ) where
    chain_hit : bucket (get_or members k 0) ≡ b → chain_of form ws ar members (suc k) b ≡ put_falling (key_of ws ar) (get_or members k 0) (chain_of form ws ar members k b)
    unfolding chain_of falling in_bucket pick
    chain_hit e = rw (eq-eqb (bucket (get_or members k 0)) b e)

    chain_miss : (bucket (get_or members k 0) ≡ b → ⊥) → chain_of form ws ar members (suc k) b ≡ chain_of form ws ar members k b
    unfolding chain_of falling in_bucket pick
    chain_miss e = rw (ne_eqb (bucket (get_or members k 0)) b e)

    -- a chain is no longer than the items
    pub chain_most : length (chain_of form ws ar members k b) ≤ k
    unfolding chain_of
    chain_most = length-falling (key_of ws ar) (in_bucket (hash_for form ws ar) (length members) b) members k

  module _ (k : ℕ) (within : k ≤ length members) where
    times_bucket : (x b : ℕ) → bucket x ≡ b → times x (chain_of form ws ar members k b) ≡ times x (take k members)
    unfolding chain_of in_bucket
    times_bucket x b e = times_taken (key_of ws ar) (in_bucket (hash_for form ws ar) (length members) b) members x k within (eq-eqb (bucket x) b e)

    times_other : (x b : ℕ) → (bucket x ≡ b → ⊥) → times x (chain_of form ws ar members k b) ≡ 0
    unfolding chain_of in_bucket
    times_other x b e = times_left (key_of ws ar) (in_bucket (hash_for form ws ar) (length members) b) members x k (ne_eqb (bucket x) b e)

    -- it stands in a chain no more often than among the items
    times-most : (x b : ℕ) → times x (chain_of form ws ar members k b) ≤ times x (take k members)
    times-most x b = ⊎_elim (λ e. omega (arith, times_bucket x b e)) (λ e. omega (arith, times_other x b e)) (eq_or_ne (bucket x) b)

    -- no item is in two
    bucket_apart : (b d x : ℕ) → (b ≡ d → ⊥) → Has (chain_of form ws ar members k b) x → times x (chain_of form ws ar members k d) ≡ 0
    bucket_apart b d x differ there =
        ⊎_elim (λ e. times_other x d (λ f. differ (sym e ∙ f))) (λ e. absurd (omega (arith, there, times_other x b e))) (eq_or_ne (bucket x) b)

  -- ---- no item yet, and one item more

  pub chained_start : (heads links : List ℕ) → length members ≤ length heads → Empty heads → Empty links → ChainedBy form ws ar members 0 heads links
  unfolding Empty chain_of falling Chain
  chained_start heads links room e f = record { chain = λ b l. e b (omega arith); clear = λ x l _. f x l }

  module _ (k : ℕ) (heads links links' heads' : List ℕ) (key : ℕ → List ℕ) (b : ℕ) (within : k < length members) (long : length links ≡ most_items)
      (once : (x : ℕ) → times x members ≤ 1) (known : (x : ℕ) → Has members x → x < most_items) (same : (x : ℕ) → x < most_items → key x ≡ key_of ws ar x)
      (here : bucket (get_or members k 0) ≡ b) (room : b < length heads) (c : ChainedBy form ws ar members k heads links) (inside : b < length members)
      (p : Placed key links heads b (get_or members k 0) links' heads') where
    i : ℕ
    i = get_or members k 0

    list : List ℕ
    list = chain_of form ws ar members k b

    last : ℕ
    last = last_above (key_of ws ar) i no_item list

    -- how often an item stands among the first k, with i, and among all
    halves : (x : ℕ) → times x members ≡ times x (take k members) + times x (drop k members)
    halves x = times_halves x k members

    more : (x : ℕ) → times x (take (suc k) members) ≡ times x (take k members) + times x (i ∷ [])
    unfolding i
    more x = ap (times x) (take-suc members k 0 within) ∙ times-append x (take k members) (get_or members k 0 ∷ [])

    most : (x : ℕ) → times x (take (suc k) members) ≤ 1
    most x = omega (arith, once x, times_halves x (suc k) members)

    small : i < most_items
    unfolding i
    small = known (get_or members k 0) (times_some (get_or members k 0) members k within refl)

    new : times i (take k members) ≡ 0
    new = omega (arith, most i, more i, times_here i i [] refl)

    last_is : last_above key i no_item list ≡ last
    unfolding last list
    last_is = above_same key (key_of ws ar) i no_item list (same i small) (λ x h. same x (known x (omega (arith, h, times-most k (omega arith) x b, halves x))))

    links_are : links' ≡ linked links (get_or heads b 0) last i
    unfolding Placed list i
    links_are = (p list (c.chain b inside)).0 ∙ ap (λ (q : ℕ). linked links (get_or heads b 0) q i) last_is

    heads_are : heads' ≡ headed heads b last i
    unfolding Placed list i
    heads_are = (p list (c.chain b inside)).1 ∙ ap (λ (q : ℕ). headed heads b q i) last_is

    chain_here : Chain links' (get_or heads' b 0) (chain_of form ws ar members (suc k) b)
    unfolding last list i
    chain_here =
        rw (links_are, heads_are, chain_hit k b here)
        (linked_chain (key_of ws ar) links i (omega (arith, small)) (omega (arith, small)) heads b list room (omega (arith, new, times-most k (omega arith) i b))
        (λ x. omega (arith, once x, halves x, times-most k (omega arith) x b)) (c.chain b inside))

    chain_there : (d : ℕ) → d < length members → (b ≡ d → ⊥) → Chain links' (get_or heads' d 0) (chain_of form ws ar members (suc k) d)
    unfolding last list i
    chain_there d l differ =
        rw (links_are, heads_are, headed_other heads b last i d (λ e. differ (sym e)), chain_miss k d (λ e. differ (sym here ∙ e)))
        (linked_other (key_of ws ar) links i (omega (arith, small)) (omega (arith, small)) heads b list (get_or heads d 0) (chain_of form ws ar members k d)
        (omega (arith, new, times-most k (omega arith) i d)) (λ x h. bucket_apart k (omega arith) b d x differ h) (c.chain d l))

    clear_now : (x : ℕ) → x < length links' → times x (take (suc k) members) ≡ 0 → get_or links' x 0 ≡ no_item
    unfolding last list
    clear_now x l none =
        let size : length links' ≡ length links = ap length links_are ∙ length-linked links (get_or heads b 0) last i in
        let other : x ≡ last → ⊥ = λ e. ⊎_elim (λ f. omega arith) (λ h. omega (arith, h, times-most k (omega arith) last b, more last, ap (λ (y : ℕ). times y (take (suc k) members)) e))
        (has_cases no_item last list (above_has (key_of ws ar) i no_item list)) in
        ap (λ (m : List ℕ). get_or m x 0) links_are
        ∙ linked_same links (get_or heads b 0) last i x (λ e. omega (arith, more x, times_here x i [] (sym e))) other ∙ c.clear x (omega arith) (omega (arith, more x))

    pub chained_more : ChainedBy form ws ar members (suc k) heads' links'
    chained_more = record {
      chain = λ d l. ⊎_elim (λ e. rw (← e) chain_here) (λ differ. chain_there d l differ) (eq_or_ne b d);
      clear = clear_now;
    }

  -- ---- all items chained

  abbrev pub lists : ℕ → List ℕ
  lists b = chain_of form ws ar members (length members) b

  length_in : length (rank_hashes form ws ar members) ≡ length members
  unfolding hashes_in
  length_in = length-map (by_rank ws ar members) (hash_for form ws ar) ∙ length-keyed ws ar members

  -- the lists, one behind the other, are the items by index
  joined_items : (b : ℕ) → joined lists b ≡ items_at (by_rank ws ar members) (runs_below (rank_hashes form ws ar members) b)
  unfolding chain_of keyed hashes_in items_at
  joined_items b = joined_runs (keyed ws ar members) (hash_for form ws ar) b

  joined_words : (b : ℕ) → length (joined lists b) ≡ bucket_start (rank_hashes form ws ar members) b
  unfolding chain_of keyed hashes_in
  joined_words b = joined-starts (keyed ws ar members) (hash_for form ws ar) b

  pub all_chained : (heads links : List ℕ) → ((x : ℕ) → times x members ≤ 1) → ChainedBy form ws ar members (length members) heads links → Chains lists (length members) heads links
  all_chained heads links once c = record {
    chain = c.chain;
    once = λ b x. omega (arith, once x, all x, times-most (length members) (omega arith) x b);
    apart = λ b d x differ there. bucket_apart (length members) (omega arith) b d x differ there;
    clear = λ x l none. c.clear x l (nowhere x none);
    few = omega (arith, joined_words (length members), start-most (rank_hashes form ws ar members) (length members), length_in);
  }
    where
      all : (x : ℕ) → times x (take (length members) members) ≡ times x members
      all x = ap (times x) (take-length members)

      -- an item that is in no list is in no bucket
      nowhere : (x : ℕ) → ((b : ℕ) → b < length members → times x (lists b) ≡ 0) → times x (take (length members) members) ≡ 0
      nowhere x none =
          ⊎_elim
          (λ there. sym (times_bucket (length members) (omega arith) x (bucket x) refl) ∙ none (bucket x) (mod-lt (hash_for form ws ar x) (omega (arith, (index_stands members x there).within))))
          (λ ge. omega (arith, all x))
          (lt_or_ge 0 (times x members))

  pub all_indexed : {items items' firsts firsts' : List ℕ} → Indexed lists (length members) items items' firsts firsts'
      → (items' ≡ put_at items 0 (items_at (by_rank ws ar members) (by_bucket (rank_hashes form ws ar members)))) × (firsts' ≡ put_at firsts 0 (starts (rank_hashes form ws ar members)))
  unfolding by_bucket
  all_indexed {items} {items'} {firsts} {firsts'} x = (
    x.order_is ∙ ap (put_at items 0) (joined_items (length members) ∙ ap (λ (n : ℕ). items_at (by_rank ws ar members) (runs_below (rank_hashes form ws ar members) n)) (sym length_in)),
    x.firsts_is ∙ ap (put_at firsts 0) (ap (listed (λ (b : ℕ). length (joined lists b))) (sym length_in) ∙ starts_of (rank_hashes form ws ar members) (λ (b : ℕ). length (joined lists b)) joined_words),
  )
