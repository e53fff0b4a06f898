use Rattle.std.specs.Prelude.{ℕ, Bool, true, false, ◌||◌, ◌&&◌, ◌==◌, List, [], ◌∷◌, ◌++◌, Option, Some, None, is_some, length, position, slice_index_or, slice_set, zero, suc}
use Rattle.std.specs.List.{filter}
use Rattle.std.specs.Option.{option_map}
use Rattle.std.specs.Str.{bytes_eq}
use Rattle.smack_base.specs.declared.ids.LabelId.{LabelId}
use Rattle.rules_spec.specs.Versions.{floor}
use Rattle.tree_spec.specs.declared.nodes.Kind.{Kind}
use Rattle.tree_spec.specs.declared.nodes.Kind.TheVariants.{File, Dir}
use Rattle.tree_spec.specs.declared.nodes.NodeLabels.{NodeLabels}
use Rattle.tree_spec.specs.declared.nodes.NodeRow.{NodeRow}

-- The nodes that were ever made, each at the place of its number, and None where it is gone. The next node has the
-- length as its number.
abbrev pub Nodes : Type 0
Nodes = List (Option NodeRow)

-- a label, and no other attribute
abbrev pub bare_label : LabelId → NodeLabels
bare_label label = record { label = label; exec = None; map = None; transmute = false }

abbrev pub root_row : LabelId → NodeRow
root_row label = record { parent = None; name = []; kind = Dir; labels = bare_label label }

-- the root alone, with this label; its number is 0
abbrev pub root_alone : LabelId → Nodes
root_alone label = Some (root_row label) ∷ []

-- the node of a number, where it is not gone
abbrev pub node_at : Nodes → ℕ → Option NodeRow
node_at nodes n = slice_index_or nodes n None

abbrev pub is_below : ℕ → Option ℕ → Bool
is_below d None = false
is_below d (Some p) = p == d

-- whether a node stands in a directory under a name
abbrev pub stands_as : ℕ → List ℕ → Option NodeRow → Bool
stands_as d name None = false
stands_as d name (Some r) = is_below d r.parent && bytes_eq r.name name

-- the number of the node of a name in a directory, where there is one
abbrev pub node_named : Nodes → ℕ → List ℕ → Option ℕ
node_named nodes d name = position (stands_as d name) nodes

-- how many nodes are not gone
abbrev pub live_nodes : Nodes → ℕ
live_nodes nodes = length (filter is_some nodes)

abbrev pub label_of_row : Option NodeRow → LabelId
label_of_row None = floor
label_of_row (Some r) = r.labels.label

-- the label of a node; the floor label stands for that of a node that is gone
abbrev pub node_label : Nodes → ℕ → LabelId
node_label nodes n = label_of_row (node_at nodes n)

abbrev pub is_file_kind : Kind → Bool
is_file_kind File = true
is_file_kind Dir = false

abbrev pub is_file_row : Option NodeRow → Bool
is_file_row None = false
is_file_row (Some r) = is_file_kind r.kind

-- whether the node of a number is a file
abbrev pub is_file : Nodes → ℕ → Bool
is_file nodes n = is_file_row (node_at nodes n)

-- a node more
abbrev pub with_node : Nodes → NodeRow → Nodes
with_node nodes r = nodes ++ Some r ∷ []

-- the node of a number is gone
abbrev pub without_node : Nodes → ℕ → Nodes
without_node nodes n = slice_set nodes n None

-- the node of a number is changed; all others are as before
abbrev pub changed_node : Nodes → ℕ → (NodeRow → NodeRow) → Nodes
changed_node nodes n change = slice_set nodes n (option_map change (node_at nodes n))

abbrev pub put_below : ℕ → List ℕ → NodeRow → Option ℕ → NodeRow
put_below d name r None = r
put_below d name r (Some from) = record r { parent = Some d; name = name }

-- a node at another place; the root has no other
abbrev pub moved : ℕ → List ℕ → NodeRow → NodeRow
moved d name r = put_below d name r r.parent

-- the node of a number comes to another place
abbrev pub with_move : Nodes → ℕ → ℕ → List ℕ → Nodes
with_move nodes n d name = changed_node nodes n (moved d name)

-- a node with other attributes
abbrev pub relabelled : NodeLabels → NodeRow → NodeRow
relabelled labels r = record r { labels = labels }

-- the node of a number has these attributes
abbrev pub with_labels : Nodes → ℕ → NodeLabels → Nodes
with_labels nodes n labels = changed_node nodes n (relabelled labels)

abbrev pub parent_of : Option NodeRow → Option ℕ
parent_of None = None
parent_of (Some r) = r.parent

-- whether a node is met on the way up from a directory, in so many steps at most
abbrev pub is_above : ℕ → Nodes → ℕ → Option ℕ → Bool
is_above zero nodes n d = false
is_above (suc more) nodes n None = false
is_above (suc more) nodes n (Some d) = (d == n) || is_above more nodes n (parent_of (node_at nodes d))

-- whether a directory is a node or stands below it
abbrev pub is_at_or_below : Nodes → ℕ → ℕ → Bool
is_at_or_below nodes n d = is_above (length nodes) nodes n (Some d)
