-- `find_by_type_id`: the byte at a child's place is its id.
use lib.Dec.{eqb}
use Rattle.std.proofs.Common.{rules}
use Rattle.model.specs.Unions.{find_by_type_id}
use Rattle.model.proofs.Lists.{every_map}
use Rattle.walk.proofs.Standing.{byte_stands}
use Rattle.datatype.proofs.find_by_type_id.Goals as goal

pub returns : goal.returns
unfolding find_by_type_id
returns c = λ l ks h n w st.
    c.find_child.ensures l (λ k. eqb k.head.type_id c.args.id) ks h n (every_map _ _ (λ k v. (v, λ place r u a. let e = byte_stands u in search rules)) ks w) st
