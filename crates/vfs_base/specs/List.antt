-- What a list ends as, where its items are lent.
use Rattle.std.specs.Prelude.{List, length}
use Rattle.std.specs.Borrow.{Array, Fml, Lends, MutBor, RattleType}
use Rattle.std.specs.List.{refill}
use Rattle.vfs_base.specs.contracts.list.List.{the_row}

module _ (T : RattleType) (list : MutBor (the_row T).Denot) where
  -- once the borrow ends, the list has the items that the borrow shows last
  abbrev pub lends_items : MutBor (List T.Denot) → Fml
  lends_items borrow = Lends (the_row T) (Array T 0) list borrow (refill (length list.now) list.now)
