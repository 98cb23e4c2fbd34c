-- `find_by_field`: the field stands behind a child's id.
use Rattle.model.specs.Equal.{same_field, same_type}
use Rattle.model.specs.Unions.{find_by_field}
use Rattle.model.proofs.Lists.{every_map}
use Rattle.model.proofs.Whole.{whole_laid_out}
use Rattle.datatype.proofs.find_by_field.Goals as goal

pub returns : goal.returns
unfolding find_by_field
returns c = λ l g ks h n w v st st'.
    c.find_child.ensures l (λ k. same_field (same_type l) k g) ks h n
    (every_map _ _ (λ k u. (whole_laid_out l k.data_type u, λ place r at_place says. says l k g h u w at_place st)) ks v) st'
