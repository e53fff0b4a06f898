use Rattle.std.specs.Prelude.{Bool, true, false, ◌&&◌, not, if◌then◌else◌, Option, Some, None, Result, Ok, Err}
use Rattle.std.specs.Option.{option_map}
use Rattle.smack_base.specs.declared.ids.LabelId.{LabelId}
use Rattle.smack_base.specs.declared.modes.Modes.{Modes}
use Rattle.rules_spec.specs.Rulings.{Ruling}
use Rattle.tree_spec.specs.declared.attributes.Attr.{Attr}
use Rattle.tree_spec.specs.declared.attributes.Attr.TheVariants.{Main, Exec, Mmap, Transmute, IpIn, IpOut}
use Rattle.tree_spec.specs.declared.attributes.AttrValue.{AttrValue}
use Rattle.tree_spec.specs.declared.attributes.AttrFault.{AttrFault}
use Rattle.tree_spec.specs.declared.attributes.AttrFault.TheVariants.{BadAttribute, BadValue, NotDirectory, NotRegular}
use Rattle.tree_spec.specs.declared.nodes.Kind.{Kind}
use Rattle.tree_spec.specs.declared.nodes.NodeLabels.{NodeLabels}
use Rattle.tree_spec.specs.Trees.{is_file_kind, bare_label}

-- whether there is a rule that has the mode t
abbrev pub rule_transmutes : Option Modes → Bool
rule_transmutes None = false
rule_transmutes (Some m) = m.transmute

-- whether a version gives the new nodes of a creator in a directory the label of the directory: it transmutes, and a
-- rule of the creator on its label has the mode t
abbrev pub transmutes : LabelId → Ruling → NodeLabels → Bool
transmutes creator version dir = dir.transmute && rule_transmutes (version.rights creator dir.label)

-- The label of a new node in a directory: that of the directory where the version transmutes it, and else that of the
-- creator. Beside it, whether a new directory transmutes.
abbrev pub new_label : LabelId → Ruling → NodeLabels → LabelId × Bool
new_label creator version dir = if transmutes creator version dir then (dir.label, true) else (creator, false)

-- the attributes of a new node in a directory; a file never transmutes
abbrev pub new_labels : Kind → LabelId → Ruling → NodeLabels → NodeLabels
new_labels kind creator version dir = let given = new_label creator version dir in
    record (bare_label given.0) { transmute = given.1 && not (is_file_kind kind) }

-- whether nodes have the attribute
abbrev pub is_of_nodes : Attr → Bool
is_of_nodes IpIn = false
is_of_nodes IpOut = false
is_of_nodes _ = true

-- why a node of a kind takes no such value of an attribute, where it does not
abbrev pub value_fault : Kind → Attr → AttrValue → Option AttrFault
value_fault kind Transmute (AttrValue.Label l) = Some BadValue
value_fault kind Transmute AttrValue.True = if is_file_kind kind then Some NotDirectory else None
value_fault kind attr AttrValue.True = Some BadValue
value_fault kind Main (AttrValue.Label l) = None
value_fault kind attr (AttrValue.Label l) = if is_file_kind kind then None else Some NotRegular

-- why an attribute of a node of a kind can't be set, where it can't
abbrev pub set_fault : Kind → Attr → AttrValue → Option AttrFault
set_fault kind attr value = if is_of_nodes attr then value_fault kind attr value else Some BadAttribute

-- the attributes of a node when one is set, where nothing is at fault
abbrev pub with_attr : NodeLabels → Attr → AttrValue → NodeLabels
with_attr labels Main (AttrValue.Label l) = record labels { label = l }
with_attr labels Exec (AttrValue.Label l) = record labels { exec = Some l }
with_attr labels Mmap (AttrValue.Label l) = record labels { map = Some l }
with_attr labels Transmute AttrValue.True = record labels { transmute = true }
with_attr labels _ _ = labels

-- why an attribute of a node can't be taken away, where it can't: each node has a label
abbrev pub absence_fault : Attr → Option AttrFault
absence_fault Exec = None
absence_fault Mmap = None
absence_fault Transmute = None
absence_fault _ = Some BadAttribute

-- the attributes of a node when one is taken away
abbrev pub without_attr : NodeLabels → Attr → NodeLabels
without_attr labels Exec = record labels { exec = None }
without_attr labels Mmap = record labels { map = None }
without_attr labels Transmute = record labels { transmute = false }
without_attr labels _ = labels

-- these labels, where nothing is at fault
abbrev pub or_fault : Option AttrFault → NodeLabels → Result NodeLabels AttrFault
or_fault None labels = Ok labels
or_fault (Some fault) labels = Err fault

-- what an attribute of a node is, where it has one
abbrev pub attr_value : NodeLabels → Attr → Option AttrValue
attr_value labels Main = Some (AttrValue.Label labels.label)
attr_value labels Exec = option_map (λ l. AttrValue.Label l) labels.exec
attr_value labels Mmap = option_map (λ l. AttrValue.Label l) labels.map
attr_value labels Transmute = if labels.transmute then Some AttrValue.True else None
attr_value labels _ = None
