use Rattle.std.proofs.Common.{◌-◌, length, take, drop, refl, sym, ◌∙◌}
use Rattle.smack_base.proofs.NamesOfPaths.{next_name, is_some}
use Rattle.smack_base.proofs.path_names.PathNames.next.Goals as goal

pub returns-clause-names : goal.returns-clause-names
returns-clause-names c =
    let rest = c.self.inside.rest.now in
    sym c.self.view_is
    ∙ next_name c.self.inside.at c.name_len-len.result rest (take (length rest - 1) (drop 1 rest)) _ _
    (is_some rest _ c.is_empty.ensures c.if-is_empty.false) refl c.name_len-len.ensures.len refl refl
