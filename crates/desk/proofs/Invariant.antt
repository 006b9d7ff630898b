-- What holds between the tree and the history after k calls, in four parts: nodes, styling, input, waiting outputs. Each part reads its own share of the
-- tree's state, and a law for each says that a call may change that share alone. So a call's proof is about what it changes, and a field more of the
-- state belongs to one part. Assumes nothing.
use Rattle.std.specs.Prelude.{Option, None, Some}
use mathlib.Core.Path.{◌≡◌, refl, sym, ap, subst, ◌∙◌}
use mathlib.Core.Bool.{Bool, true, false, cond}
use mathlib.Core.List.{List}
use Prim.Native.Nat.{ℕ, suc, ◌≤◌, ◌<◌}
use native.Mathlib.Omega.{arith}
use lib.ListN.{length, get_or, take, drop, length-append, length-drop}
use Rattle.field.specs.Marks.{Marked}
use Rattle.field.specs.declared.NodeId.{NodeId}
use Rattle.field.specs.declared.Field.{Field}
use Rattle.arithmetic.specs.Tests.{occ}
use Rattle.tree.specs.Slots.{Slots, at, nobody}
use Rattle.tree.specs.Styles.{fresh_state, state_at}
use Rattle.tree.specs.Forest.{Forest, map_f}
use Rattle.tree.specs.Nodes.{Info, place_f, with_box}
use Rattle.tree.specs.Fields.{field_of}
use Rattle.tree.specs.Rules.{distinct}
use Rattle.tree.specs.Trees.{limit_of, pool_of, with_interaction, with_fields, with_waiting}
use Rattle.tree.specs.declared.Ui.{Ui}
use Rattle.tree.specs.Types.{Rect, LayoutSlot, StateSlot, StatePatch, Viewport}
use Rattle.tree.specs.declared.Interaction.{Interaction}
use Rattle.tree.proofs.ForestLaws.{cnt}
use Rattle.tree.proofs.Payloads.{AllF, shape, all_map, all_map_f, shape_map}
use Rattle.tree.proofs.Rounds.{Worn, Sized}
use Rattle.tree.proofs.PassLaws.{Boxed, placing_keeps_what_boxes_leave_alone, placing_keeps_the_shape}
use Rattle.tree.proofs.WellLaws.{StatesWell}
use Rattle.tree.proofs.Relation.{Links, Naming, Styled, Pool, Texts, Queue, marked_in}
use Rattle.tree.proofs.ShapeParts.{links_after, links_of_shape, naming_by_shape, texts_by_shape}
use Rattle.tree.proofs.FieldParts.{retexted, texts_keep_styling, texts_keep_naming}
use Rattle.tree.specs.History.{History, Styling, Input, with_styling, with_names, with_input, with_tree, id_named}

-- a name that was made
abbrev pub NameIn : List NodeId → Option ℕ → Type 0
NameIn named None = Unit {0}
NameIn named (Some m) = m < length named

-- an id, or none, that the history has by a name
pub record NamedBy (named : List NodeId) (o : Option NodeId) (m : Option ℕ) : Type 0 where
  pub is_the_id : o ≡ id_named named m
  pub is_in : NameIn named m

-- a node has the id at the place of its name, and the text of its field
abbrev pub OwnName : List NodeId → ℕ → ℕ → Info → Type 0
OwnName named i g x = (x.name < length named) × (get_or named x.name nobody ≡ record { index = i; generation = g })

abbrev pub OwnText : List Field → ℕ → ℕ → Info → Type 0
OwnText fields i g x = x.marked ≡ marked_in (field_of (record { index = i; generation = g }) fields)

-- ---- the parts

pub record NodesAgree (k : ℕ) (u : Ui) (limit : ℕ) (t : Forest Info) (named : List NodeId) : Type 0 where
  pub links : Links k u t
  pub naming : Naming u.slots t named
  pub texts : Texts u.slots u.fields t
  pub root_is : (at u.slots 0).generation ≡ 1
  pub limit_is : limit_of u ≡ limit

pub record StylingAgrees (u : Ui) (t : Forest Info) (b : Styling) : Type 0 where
  pub styled : Styled u t
  pub pool : Pool u
  pub pool_is : pool_of u ≡ b.pool
  pub view_is : u.solved_for ≡ b.viewport
  pub dirty_is : u.dirty ≡ b.dirty

pub record InputAgrees (a : Interaction) (named : List NodeId) (i : Input) : Type 0 where
  pub pointer_is : a.pointer ≡ i.pointer
  pub pressed : NamedBy named a.pressed i.pressed
  pub focus : NamedBy named a.focus i.focus

pub record Inv (k : ℕ) (u : Ui) (h : History) : Type 0 where
  pub nodes : NodesAgree k u h.limit h.tree h.named
  pub styling : StylingAgrees u h.tree h.styling
  pub input : InputAgrees u.interaction h.named h.input
  pub queue : Queue u

-- one call more
pub nodes_after : {k : ℕ} {u : Ui} {limit : ℕ} {t : Forest Info} {named : List NodeId} → NodesAgree k u limit t named → NodesAgree (suc k) u limit t named
nodes_after {k} {u} {limit} {t} n = record { links = links_after k u t n.links; naming = n.naming; texts = n.texts; root_is = n.root_is; limit_is = n.limit_is }

pub inv_after : {k : ℕ} {u : Ui} {h : History} → Inv k u h → Inv (suc k) u h
inv_after v = record { nodes = nodes_after v.nodes; styling = v.styling; input = v.input; queue = v.queue }

-- ---- what each part reads of a tree: where that is the same, the part holds as before

pub record NodeState : Type 0 where
  pub slots : Slots
  pub free : ℕ
  pub live : ℕ
  pub limit : ℕ
  pub fields : List Field

abbrev pub node_state : Ui → NodeState
node_state u = record { slots = u.slots; free = u.free; live = u.live; limit = limit_of u; fields = u.fields }

pub record PoolState : Type 0 where
  pub patches : List StatePatch
  pub count : ℕ
  pub viewport : Viewport

abbrev pub pool_state : Ui → PoolState
pool_state u = record { patches = u.patches; count = u.patch_count; viewport = u.solved_for }

pub record StyleState : Type 0 where
  pub layout : List LayoutSlot
  pub states : List StateSlot
  pub dirty : Bool
  pub stated : List ℕ
  pub stated_count : ℕ
  pub pool : PoolState
  pub limit : ℕ

abbrev pub style_state : Ui → StyleState
style_state u = record { layout = u.layout; states = u.states; dirty = u.dirty; stated = u.stated; stated_count = u.stated_count; pool = pool_state u; limit = limit_of u }

pub record QueueState : Type 0 where
  pub outputs : List NodeId
  pub count : ℕ
  pub limit : ℕ

abbrev pub queue_state : Ui → QueueState
queue_state u = record { outputs = u.outputs; count = u.output_count; limit = limit_of u }

module _ {u u' : Ui} where
  nodes_by : {k limit : ℕ} {t : Forest Info} {named : List NodeId} → node_state u' ≡ node_state u → NodesAgree k u limit t named → NodesAgree k u' limit t named
  nodes_by {k} {limit} {t} {named} e n = record {
    links = links_of_shape t t refl k u u' (ap (λ (s : NodeState). s.slots) e) (ap (λ (s : NodeState). s.free) e) (ap (λ (s : NodeState). s.live) e) (ap (λ (s : NodeState). s.limit) e) n.links;
    naming = subst (λ (s : NodeState). Naming s.slots t named) (sym e) n.naming;
    texts = subst (λ (s : NodeState). Texts s.slots s.fields t) (sym e) n.texts;
    root_is = subst (λ (s : NodeState). (at s.slots 0).generation ≡ 1) (sym e) n.root_is;
    limit_is = ap (λ (s : NodeState). s.limit) e ∙ n.limit_is;
  }

  dress_by : {t : Forest Info} → style_state u' ≡ style_state u → Styled u t → Styled u' t
  dress_by {t} e d = record {
    sized = subst (λ (s : StyleState). Sized (record { layout = s.layout; states = s.states; dirty = s.dirty })) (sym e) d.sized;
    worn = subst (λ (s : StyleState). AllF (λ i g x. Worn s.layout s.states i x) t) (sym e) d.worn;
    tables = d.tables;
    boxed = subst (λ (s : StyleState). Boxed s.layout t) (sym e) d.boxed;
    with_bits = subst (λ (s : StyleState). AllF (λ i g x. 0 < x.bits → 0 < occ i (take s.stated_count s.stated)) t) (sym e) d.with_bits;
    dead = subst (λ (s : StyleState). (j : ℕ) → j < 128 → cnt j t ≡ 0 → state_at s.states j ≡ fresh_state) (sym e) d.dead;
    stated_long = subst (λ (s : StyleState). length s.stated ≡ 3) (sym e) d.stated_long;
    stated_few = subst (λ (s : StyleState). s.stated_count ≤ 3) (sym e) d.stated_few;
    stated_once = subst (λ (s : StyleState). distinct s.limit (take s.stated_count s.stated) ≡ true) (sym e) d.stated_once;
    well = subst (λ (s : StyleState). StatesWell s.pool.count s.limit s.states) (sym e) d.well;
  }

  pool_by : pool_state u' ≡ pool_state u → Pool u → Pool u'
  pool_by e p = record {
    long = ap (λ (s : PoolState). length s.patches) e ∙ p.long;
    few = subst (λ (s : PoolState). s.count ≤ 64) (sym e) p.few;
  }

  queue_by : queue_state u' ≡ queue_state u → Queue u → Queue u'
  queue_by e q = record {
    long = ap (λ (s : QueueState). length s.outputs) e ∙ q.long;
    few = subst (λ (s : QueueState). s.count ≤ s.limit) (sym e) q.few;
  }

  -- other looks under the same pool and viewport
  pub styling_under : {t t' : Forest Info} {b : Styling} {d : Bool} → pool_state u' ≡ pool_state u → StylingAgrees u t b → Styled u' t' → u'.dirty ≡ d
      → StylingAgrees u' t' (record { pool = b.pool; viewport = b.viewport; dirty = d })
  styling_under e s dr ed = record {
    styled = dr;
    pool = pool_by e s.pool;
    pool_is = ap (λ (p : PoolState). take p.count p.patches) e ∙ s.pool_is;
    view_is = ap (λ (p : PoolState). p.viewport) e ∙ s.view_is;
    dirty_is = ed;
  }

  styling_by : {t : Forest Info} {b : Styling} → style_state u' ≡ style_state u → StylingAgrees u t b → StylingAgrees u' t b
  styling_by e s = styling_under (ap (λ (p : StyleState). p.pool) e) s (dress_by e s.styled) (ap (λ (p : StyleState). p.dirty) e ∙ s.dirty_is)

-- ---- nodes that keep place, name and text

pub record SameNodes (t t' : Forest Info) : Type 1 where
  pub shape_is : shape t ≡ shape t'
  pub keeps : (P : ℕ → ℕ → Info → Type 0) → ((i g : ℕ) (x y : Info) → y.name ≡ x.name → y.marked ≡ x.marked → P i g x → P i g y) → AllF P t → AllF P t'

pub same_nodes_each : (w : ℕ → ℕ → Info → Info) → ((i g : ℕ) (x : Info) → ((w i g x).name ≡ x.name) × ((w i g x).marked ≡ x.marked)) → (t : Forest Info) → SameNodes t (map_f w t)
same_nodes_each w e t = record {
  shape_is = sym (shape_map w t);
  keeps = λ P q a. all_map_f P w t (all_map P (λ i g x. P i g (w i g x)) t (λ i g x _ p. q i g x (w i g x) (e i g x).0 (e i g x).1 p) a);
}

pub same_nodes_some : (b : ℕ → ℕ → Bool) (f : Info → Info) → ((x : Info) → ((f x).name ≡ x.name) × ((f x).marked ≡ x.marked)) → (t : Forest Info) → SameNodes t (map_f (λ i g x. cond (b i g) (f x) x) t)
same_nodes_some b f e t = same_nodes_each (λ i g x. cond (b i g) (f x) x) (λ i g x. go (b i g) x) t
  where
    go : (c : Bool) (x : Info) → ((cond c (f x) x).name ≡ x.name) × ((cond c (f x) x).marked ≡ x.marked)
    go true x = e x
    go false x = (refl, refl)

pub same_nodes_placed : (t : Forest Info) (rs : List Rect) → SameNodes t (place_f t rs)
same_nodes_placed t rs = record {
  shape_is = placing_keeps_the_shape t rs;
  keeps = λ P q a. placing_keeps_what_boxes_leave_alone P (λ i g x r p. q i g x (with_box x r) refl refl p) t rs a;
}

nodes_of_same : {k : ℕ} {u : Ui} {limit : ℕ} {t t' : Forest Info} {named : List NodeId} → SameNodes t t' → NodesAgree k u limit t named → NodesAgree k u limit t' named
nodes_of_same {k} {u} {limit} {t} {t'} {named} r n = record {
  links = links_of_shape t t' r.shape_is k u u refl refl refl refl n.links;
  naming = naming_by_shape t t' r.shape_is u.slots named n.naming
      (r.keeps (OwnName named)
      (λ i g x y en et p. (rw en p.0, ap (λ (m : ℕ). get_or named m nobody) en ∙ p.1)) n.naming.own);
  texts = texts_by_shape t t' r.shape_is u.slots u.fields n.texts
      (r.keeps (OwnText u.fields) (λ i g x y en et p. et ∙ p) n.texts.texts);
  root_is = n.root_is;
  limit_is = n.limit_is;
}

-- ---- one part changes

-- what the other parts of one that changes read
pub record BesideNodes : Type 0 where
  pub pool : PoolState
  pub queue : QueueState
  pub interaction : Interaction

abbrev pub beside_nodes : Ui → BesideNodes
beside_nodes u = record { pool = pool_state u; queue = queue_state u; interaction = u.interaction }

pub record BesideStyling : Type 0 where
  pub nodes : NodeState
  pub queue : QueueState
  pub interaction : Interaction

abbrev pub beside_styling : Ui → BesideStyling
beside_styling u = record { nodes = node_state u; queue = queue_state u; interaction = u.interaction }

module _ {k : ℕ} {u : Ui} {h : History} (v : Inv k u h) where
  -- nodes came or went: a pass is due
  pub with_nodes_lem : {u' : Ui} {t' : Forest Info} {named' : List NodeId} → beside_nodes u' ≡ beside_nodes u → u'.dirty ≡ true
      → NodesAgree (suc k) u' h.limit t' named' → Styled u' t' → InputAgrees u.interaction named' h.input
      → Inv (suc k) u' (with_names (with_tree h t' true) named')
  with_nodes_lem {u'} {t'} {named'} e ed n d i = record {
    nodes = n;
    styling = styling_under (ap (λ (s : BesideNodes). s.pool) e) v.styling d ed;
    input = subst (λ (s : BesideNodes). InputAgrees s.interaction named' h.input) (sym e) i;
    queue = queue_by (ap (λ (s : BesideNodes). s.queue) e) v.queue;
  }

  -- other looks, boxes, pool or viewport
  pub with_styling_lem : {u' : Ui} {t' : Forest Info} {b : Styling} → beside_styling u' ≡ beside_styling u → SameNodes h.tree t' → StylingAgrees u' t' b
      → Inv k u' (with_styling h t' b)
  with_styling_lem e r s = record {
    nodes = nodes_by (ap (λ (s : BesideStyling). s.nodes) e) (nodes_of_same r v.nodes);
    styling = s;
    input = subst (λ (s : BesideStyling). InputAgrees s.interaction h.named h.input) (sym e) v.input;
    queue = queue_by (ap (λ (s : BesideStyling). s.queue) e) v.queue;
  }

  -- other fields, and other texts at some nodes
  pub with_texts : (b : ℕ → ℕ → Info → Bool) (y : Info → Option Marked) (fs : List Field) → Texts u.slots fs (map_f (retexted b y) h.tree)
      → Inv k (with_fields u fs) (with_tree h (map_f (retexted b y) h.tree) h.styling.dirty)
  unfolding with_fields
  with_texts b y fs x = record {
    nodes = record {
      links = links_of_shape h.tree (map_f (retexted b y) h.tree) (sym (shape_map (retexted b y) h.tree)) k u (with_fields u fs) refl refl refl refl v.nodes.links;
      naming = texts_keep_naming b y u.slots h.tree h.named v.nodes.naming;
      texts = x;
      root_is = v.nodes.root_is;
      limit_is = v.nodes.limit_is;
    };
    styling = styling_under refl v.styling (dress_by refl (texts_keep_styling b y u h.tree v.styling.styled)) v.styling.dirty_is;
    input = v.input;
    queue = queue_by refl v.queue;
  }

  -- another interaction, another input
  pub with_input_lem : (a : Interaction) (i : Input) → InputAgrees a h.named i → Inv k (with_interaction u a) (with_input h i)
  unfolding with_interaction
  with_input_lem a i x = record { nodes = nodes_by refl v.nodes; styling = styling_by refl v.styling; input = x; queue = queue_by refl v.queue }

  -- other waiting outputs, no more than the limit
  pub with_outputs : (ds : List NodeId) → length ds ≤ limit_of u → Inv k (with_waiting u ds) h
  unfolding with_waiting
  with_outputs ds b = record {
    nodes = nodes_by refl v.nodes;
    styling = styling_by refl v.styling;
    input = v.input;
    queue = record {
      long = let a = length-append ds (drop (length ds) u.outputs) in let c = length-drop (length ds) u.outputs in let l = v.queue.long in let m = v.nodes.links.rel.small in omega arith;
      few = b;
    };
  }
