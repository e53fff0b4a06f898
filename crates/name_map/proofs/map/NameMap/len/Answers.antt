use Rattle.name_map.proofs.Listings.{names_rise}
use Rattle.name_map.proofs.map.NameMap.len.Goals as goal

pub returns-clause-rises : goal.returns-clause-rises
returns-clause-rises c = rw (← c.self.view_is) (names_rise (λ k. k.items) c.self.inside.map.entries c.len.ensures.ordered)
