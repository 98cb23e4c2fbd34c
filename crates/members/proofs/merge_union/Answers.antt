-- `merge_union`: opened, the children of the other, no id twice.
use Rattle.table.proofs.Edited.{merges_on, went, stopped, handed_up}
use Rattle.members.proofs.Unions.{union_stop, union_done, union_clash}
use Rattle.members.proofs.merge_union.Goals as goal

pub returns-in_err-merge_members : goal.returns-in_err-merge_members
returns-in_err-merge_members c =
    let o = c.open_union.ensures in
    let m = c.merge_members.ensures in
    let (same, many) = merges_on o.same m in
    let e = c.in_err-merge_members.was in
    handed_up e c.from_residual.ensures.1 (record { same = same; is = union_stop o.same.size o.is c.ahead-row.ensures c.find_children-children.ensures many (stopped m e) })

pub returns-then-ids_differ : goal.returns-then-ids_differ
returns-then-ids_differ c =
    let o = c.open_union.ensures in
    let m = c.merge_members.ensures in
    let (same, many) = merges_on o.same m in
    let tells = rw (c.places.ensures.0, c.places.ensures.1, same.train) at c.ids_differ.ensures in
    record { same = same; is = union_done o.same.size o.is c.ahead-row.ensures c.find_children-children.ensures many (went m c.in_ok-merge_members.was) tells c.if-ids_differ.true }

pub returns : goal.returns
returns c =
    let o = c.open_union.ensures in
    let m = c.merge_members.ensures in
    let (same, many) = merges_on o.same m in
    let tells = rw (c.places.ensures.0, c.places.ensures.1, same.train) at c.ids_differ.ensures in
    record { same = same; is = union_clash o.same.size o.is c.ahead-row.ensures c.find_children-children.ensures many (went m c.in_ok-merge_members.was) tells c.if-ids_differ.false }
