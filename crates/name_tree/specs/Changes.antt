-- What becomes of the nodes where an entry leads elsewhere, or a node comes, goes or changes.
use Rattle.std.specs.Prelude.{◌≡◌, ◌≢◌, ℕ, Option, Some, None, List, [], ◌∷◌}
use Rattle.name_tree.specs.Layout.{Child, child_in, value_in}
use Rattle.name_tree.specs.declared.node.Node.{Node}

-- the entry of a name below a slot leads elsewhere or nowhere, and each other entry where it led
pub record Redirects (old new : Child) (at : ℕ) (name : List ℕ) (to : Option ℕ) : Type 0 where
  pub changed : new at name ≡ to
  pub others : (slot : ℕ) (other : List ℕ) → ((slot ≡ at) → other ≢ name) → new slot other ≡ old slot other

-- the value at a slot has changed, and no other
pub record Revalues {T : Type 0} (old new : ℕ → Option T) (at : ℕ) (value : Option T) : Type 0 where
  pub changed : new at ≡ value
  pub others : (slot : ℕ) → slot ≢ at → new slot ≡ old slot

module _ {T : Type 0} where
  -- each slot has its value, and each entry leads where it led
  pub record SameNodes (old new : List (Option (Node T))) : Type 0 where
    pub values : (slot : ℕ) → value_in new slot ≡ value_in old slot
    pub entries : (slot : ℕ) (name : List ℕ) → child_in new slot name ≡ child_in old slot name

  -- a node has come to a free slot, and the entry of a name leads there
  pub record Inserts (old new : List (Option (Node T))) (at : ℕ) (name : List ℕ) (value : T) : Type 0 where
    pub to : ℕ
    pub free : value_in old to ≡ None
    pub bare : (other : List ℕ) → child_in old to other ≡ None
    pub entry : Redirects (child_in old) (child_in new) at name (Some to)
    pub valued : Revalues (value_in old) (value_in new) to (Some value)

  -- the entry of a name leads nowhere, and the node to which it led is gone
  pub record Removes (old new : List (Option (Node T))) (at : ℕ) (name : List ℕ) (slot : ℕ) : Type 0 where
    pub entry : Redirects (child_in old) (child_in new) at name None
    pub valued : Revalues (value_in old) (value_in new) slot None

  -- an entry that led to a slot is gone, and another one leads there
  pub record Relinks (old new : List (Option (Node T))) (at : ℕ) (name : List ℕ) (to : ℕ) (other : List ℕ) (slot : ℕ) : Type 0 where
    pub between : Child
    pub added : Redirects (child_in old) between to other (Some slot)
    pub taken : Redirects between (child_in new) at name None
    pub values : (a : ℕ) → child_in old to other ≢ Some a → value_in new a ≡ value_in old a
    pub gone : (a : ℕ) → child_in old to other ≡ Some a → value_in new a ≡ None

  -- a value, if there is one, with its name
  abbrev pub with_name : List ℕ → Option T → List (List ℕ × T) → List (List ℕ × T)
  with_name name None others = others
  with_name name (Some value) others = (name, value) ∷ others

  -- the values to which entries lead, each by its name
  abbrev pub named_values : List (Option (Node T)) → List (List ℕ × ℕ) → List (List ℕ × T)
  named_values nodes [] = []
  named_values nodes (entry ∷ entries) = with_name entry.0 (value_in nodes entry.1) (named_values nodes entries)
