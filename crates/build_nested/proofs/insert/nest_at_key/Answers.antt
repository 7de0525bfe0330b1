-- `build_nested::insert::nest_at_key` meets its contract: 24, 24, 25, 8, 20, or on to the insert.
use Rattle.build_tables.proofs.TableLaws.{free_standing_facts}
use mathlib.Core.Path.{sym, ◌∙◌}
use Rattle.build_nested.proofs.insert.nest_at_key.Goals as goal

pub insert_nested-requires : goal.insert_nested-requires
insert_nested-requires c =
    record {
      ready = record {
        valid-memory = c.requires;
        known = (free_standing_facts _ _ (sym c.is_free_standing.ensures ∙ c.if-not-is_free_standing.false)).0;
        short = c.if-key-gt-LONGEST_KEY.false;
      };
      guest_bound = (free_standing_facts _ _ (sym c.is_free_standing-2.ensures ∙ c.if-not-is_free_standing-2.false)).0;
    }
