-- `find_type_id`: the position that the iterator gives is the definition's.
use mathlib.Core.Path.{◌≡◌, ap, ◌∙◌}
use lib.Dec.{eqb}
use Rattle.std.proofs.Common.{rules, tests}
use Rattle.std.proofs.lemmas.Iterator.{YieldsList-from_slice}
use Rattle.std.proofs.lemmas.Iterator.Search.{position_from_yields_List}
use Rattle.std.specs.Option.{option_map}
use Rattle.unions.proofs.Search.{position_is}
use Rattle.unions.proofs.find_type_id.Goals as goal

pub returns : goal.returns
returns c =
    let ids = c.args.ids.now in
    let mapped : c.map.result ≡ option_map (λ i. record { 0 = i }) c.position.result = search rules in
    let found = position_from_yields_List (λ i. eqb i c.args.id.0) _ _ c.position.result c.position.ensures.ran (YieldsList-from_slice ids (cc)) (λ x b q k. search (rules, tests)) in
    mapped ∙ ap (option_map λ i. record { 0 = i }) (found ∙ position_is _ ids)
