use Rattle.rule_text.proofs.Trimmed.{trimmed_cut}
use Rattle.rule_text.proofs.short_line.trim.Goals as goal

pub returns-clause-bytes : goal.returns-clause-bytes
returns-clause-bytes c =
    trimmed_cut c.args.field.at c.blank_len.result c.args.field.bytes.now c.blank_len.ensures.place
    c.after-bare.result.bytes.now c.after-bare.ensures.bytes c.end_spaces.result c.end_spaces.ensures.place c.end_spaces.ensures.within
    c.front.result.bytes.now c.front.ensures.bytes c.after-bare.result.at c.front.result.at c.after-bare.ensures.place c.front.ensures.place
