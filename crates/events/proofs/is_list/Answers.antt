use Rattle.std.proofs.Common.{rules, arith}
use Rattle.std.proofs.lemmas.Iterator.{YieldsList-from_slice}
use Rattle.std.proofs.lemmas.Iterator.Search.{all_from_yields_List}
use borrow.Author.Tests.{tests}
use Rattle.events.specs.Lists.{names_event, is_list}
use Rattle.events.proofs.Listed.{named_chunks}
use Rattle.events.proofs.is_list.Goals as goal

pub returns-then-is_empty : goal.returns-then-is_empty
unfolding is_list
returns-then-is_empty c =
    let e = all_from_yields_List names_event _ _ c.all.result c.all.ensures.ran (YieldsList-from_slice c.as_chunks.result.0.now cc) (λ x b q k. search (rules, tests)) in
    grind (arith, named_chunks)
