use Rattle.partners.proofs.Naming.{lists_none}
use Rattle.partners.proofs.index.Index.of.Goals as goal

pub add-requires : goal.add-requires
add-requires c =
    (c.requires, (lists_none _ _ _, lists_none _ _ _))
