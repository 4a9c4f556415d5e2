-- Head by head.
use mathlib.Core.Path.{◌∙◌}
use Rattle.sheet.specs.declared.rule_set.RuleSet.TheVariants.{Archive1, Archive2, Archive3}
use Rattle.archive.specs.Reader.{head_among}
use Rattle.archive.proofs.Heads.{starts_as}
use Rattle.archive.proofs.head.head_of.Goals as goal

pub returns-then-starts_with-clause-value : goal.returns-then-starts_with-clause-value
unfolding head_among
returns-then-starts_with-clause-value c = rw (starts_as Archive1 c.args.bytes.now c.starts_with.ensures.value ∙ c.if-starts_with.true)

pub returns-then-starts_with-2-clause-value : goal.returns-then-starts_with-2-clause-value
unfolding head_among
returns-then-starts_with-2-clause-value c =
    rw (starts_as Archive1 c.args.bytes.now c.starts_with.ensures.value ∙ c.if-starts_with.false, starts_as Archive2 c.args.bytes.now c.starts_with-2.ensures.value ∙ c.if-starts_with-2.true)

pub returns-then-starts_with-3-clause-value : goal.returns-then-starts_with-3-clause-value
unfolding head_among
returns-then-starts_with-3-clause-value c =
    let bytes = c.args.bytes.now in
    rw (
      starts_as Archive1 bytes c.starts_with.ensures.value ∙ c.if-starts_with.false,
      starts_as Archive2 bytes c.starts_with-2.ensures.value ∙ c.if-starts_with-2.false,
      starts_as Archive3 bytes c.starts_with-3.ensures.value ∙ c.if-starts_with-3.true,
    )

pub returns-clause-value : goal.returns-clause-value
unfolding head_among
returns-clause-value c =
    let bytes = c.args.bytes.now in
    rw (
      starts_as Archive1 bytes c.starts_with.ensures.value ∙ c.if-starts_with.false,
      starts_as Archive2 bytes c.starts_with-2.ensures.value ∙ c.if-starts_with-2.false,
      starts_as Archive3 bytes c.starts_with-3.ensures.value ∙ c.if-starts_with-3.false,
    )
