-- `check_rules::survey::survey_children` meets its contract: the invariant says that the first `k` children are good and have their bits.
use mathlib.Core.Path.{◌≡◌, refl, sym, ◌∙◌}
use native.Mathlib.Omega.{arith}
use Rattle.words.specs.Below.{all_below}
use Rattle.read_listing.specs.Children.{child_at}
use Rattle.check_rules.proofs.ChildLaws.{walk_start, turn_fails, turn_goes}
use Rattle.check_rules.proofs.survey.survey_children.Goals as goal

pub loop-k-init : goal.loop-k-init
unfolding all_below
loop-k-init c = (refl, walk_start _ _ _ _ _ c.requires.fresh)

pub survey_child-requires : goal.survey_child-requires
survey_child-requires c = (c.requires.in_file.0, c.loop-k.invariant.1.room)

pub returns-then-not-survey_child : goal.returns-then-not-survey_child
unfolding child_at
returns-then-not-survey_child c =
    let whole = turn_fails c.args.file.now c.args.table c.args.index c.args.from c.args.bits.now c.loop-k.k c.loop-k.invariant.1 (c.word_at-child.ensures) c.survey_child.ensures.said c.survey_child.ensures.wrote c.args.n c.loop-k-test.true (c.if-not-survey_child.true) in
    record { said = whole.0; wrote = whole.1 }

pub loop-k-preserved : goal.loop-k-preserved
unfolding child_at
loop-k-preserved c =
    turn_goes _ _ _ _ _ _ c.loop-k.invariant.1 (c.word_at-child.ensures) c.survey_child.ensures.said c.survey_child.ensures.wrote c.loop-k.invariant.0 (c.if-not-survey_child.false)

pub returns : goal.returns
returns c =
    let last : c.loop-k.k ≡ c.args.n = omega arith in
    record {
      said = sym (rw last at c.loop-k.invariant.0);
      wrote = rw last at c.loop-k.invariant.1;
    }
