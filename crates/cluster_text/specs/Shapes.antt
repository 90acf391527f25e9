-- The members of a cluster text, in the order in which they are looked at. Each has its own shape; the first that is
-- absent or has another is the fault.
use Rattle.std.specs.Prelude.{ℕ, ◌^◌, ◌-◌, nat_le, if◌then◌else◌, List, [], ◌∷◌, Option}
use Rattle.std.specs.Prelude.{Some, None, option_map, option_and_then, is_some, Result, Ok, Err}
use Rattle.std.specs.List.{list_all, filter_map}
use Rattle.std.specs.Result.{result_ok}
use Rattle.hex.specs.Hex.{decode_sized}
use Rattle.serde_json.specs.Data.{Data, Items, no_items, item}
use Rattle.serde_json.specs.Find.{as_array, as_str}
use Rattle.client_lines.specs.Results.{◌>>=◌}
use Rattle.client_lines.specs.Members.{member_of, member_number, whole_number}
use Rattle.client_lines.specs.declared.member.Member.{Member}
use Rattle.client_lines.specs.declared.member.Member.TheVariants.{Cluster, N, F, Me, Roles, Keys, Nodes, Client}
use Rattle.client_lines.specs.declared.member.MemberFault.{MemberFault}
use Rattle.client_lines.specs.declared.member.MemberFault.TheVariants as member
use Rattle.cluster_text.specs.declared.cluster.Mode.{Mode}
use Rattle.cluster_text.specs.declared.cluster.Mode.TheVariants.{Pipe, Serve}
use Rattle.cluster_text.specs.declared.fault.ClusterFault.{ClusterFault}
use Rattle.cluster_text.specs.declared.fault.ClusterFault.TheVariants.{Missing, OutOfRange}
use Rattle.cluster_text.specs.declared.shape.LinkMembers as links
use Rattle.cluster_text.specs.declared.shape.Shape as shape
use Rattle.serde_json.specs.View.{view}

-- the items of an array
abbrev pub items_list : Items → List Data
items_list no_items = []
items_list (item value values) = value ∷ items_list values

unfoldable pub list_of : Data → Option (List Data)
list_of value = option_map items_list (as_array value)

-- a whole number that is no more than `most`
abbrev pub number_most : ℕ → Data → Option ℕ
number_most most value = option_and_then (λ n. if nat_le n most then Some n else None) (whole_number value)

-- a role of 16 bits and its owner of 8
abbrev pub pair_in : List Data → Option (ℕ × ℕ)
pair_in [] = None
pair_in (role ∷ []) = None
pair_in (role ∷ owner ∷ []) =
    option_and_then (λ r. option_map (λ o. (r, o)) (number_most (2 ^ 8 - 1) owner)) (number_most (2 ^ 16 - 1) role)
pair_in (role ∷ owner ∷ third ∷ more) = None

unfoldable pub pair_of : Data → Option (ℕ × ℕ)
pair_of value = option_and_then pair_in (list_of value)

-- 32 bytes, as 64 hexadecimal digits
unfoldable pub key_of : Data → Option (List ℕ)
key_of value = option_and_then (λ text. result_ok (decode_sized text 32)) (as_str value)

-- a port, from 1
unfoldable pub port_of : Data → Option ℕ
port_of value = option_and_then (λ n. if nat_le 1 n then Some n else None) (number_most (2 ^ 16 - 1) value)

-- what the text says of a cluster; in a pipe there are no keys and no ports
pub record Shape : Type 0 where
  pub cluster : ℕ
  pub n : ℕ
  pub f : ℕ
  pub me : ℕ
  pub roles : List (ℕ × ℕ)
  pub keys : List (List ℕ)
  pub nodes : List ℕ
  pub client : ℕ

abbrev pub or_cluster_fault : Member → Result ℕ MemberFault → Result ℕ ClusterFault
or_cluster_fault m (Ok n) = Ok n
or_cluster_fault m (Err member.Missing) = Err (Missing m)
or_cluster_fault m (Err member.OutOfRange) = Err (OutOfRange m)

unfoldable pub number_of : Member → ℕ → Data → Result ℕ ClusterFault
number_of m most text = or_cluster_fault m (member_number m most text)

-- a value, where it is there and has its shape
abbrev pub present : {A : Type 0} → Member → Option (Option A) → Result A ClusterFault
present m None = Err (Missing m)
present m (Some None) = Err (OutOfRange m)
present m (Some (Some x)) = Ok x

-- the values of a list, where each item has its shape
unfoldable pub values_of : {A : Type 0} → (Data → Option A) → List Data → Option (List A)
values_of shape items = if list_all (λ value. is_some (shape value)) items then Some (filter_map shape items) else None

-- the items of the member's list
unfoldable pub list_items : Member → Data → Result (List Data) ClusterFault
list_items m text = present m (option_map list_of (member_of m text))

unfoldable pub list_member : {A : Type 0} → Member → (Data → Option A) → Data → Result (List A) ClusterFault
list_member m shape text = do
  items ← list_items m text
  present m (Some (values_of shape items))

unfoldable pub port_member : Member → Data → Result ℕ ClusterFault
port_member m text = present m (option_map port_of (member_of m text))

-- the members that only a server looks at
pub record Links : Type 0 where
  pub keys : List (List ℕ)
  pub nodes : List ℕ
  pub client : ℕ

unfoldable pub links_of : Mode → Data → Result Links ClusterFault
links_of Pipe text = Ok (record { keys = []; nodes = []; client = 0 })
links_of Serve text = do
  keys ← list_member Keys key_of text
  nodes ← list_member Nodes port_of text
  client ← port_member Client text
  Ok (record { keys = keys; nodes = nodes; client = client })

unfoldable pub shape_of : Mode → Data → Result Shape ClusterFault
shape_of mode text = do
  cluster ← number_of Cluster (2 ^ 32 - 1) text
  n ← number_of N (2 ^ 8 - 1) text
  f ← number_of F (2 ^ 8 - 1) text
  me ← number_of Me (2 ^ 8 - 1) text
  roles ← list_member Roles pair_of text
  links ← links_of mode text
  Ok (record {
    cluster = cluster;
    n = n;
    f = f;
    me = me;
    roles = roles;
    keys = links.keys;
    nodes = links.nodes;
    client = links.client;
  })

-- ---- what the code keeps of a text

abbrev pub links_view : links.LinkMembers → Links
links_view l =
    record {
      keys = filter_map (λ v. key_of (view v)) l.keys.now;
      nodes = filter_map (λ v. port_of (view v)) l.nodes.now;
      client = l.client;
    }

abbrev pub shape_view : shape.Shape → Shape
shape_view s =
    record {
      cluster = s.cluster;
      n = s.n;
      f = s.f;
      me = s.me;
      roles = filter_map (λ v. pair_of (view v)) s.roles.now;
      keys = (links_view s.links).keys;
      nodes = (links_view s.links).nodes;
      client = (links_view s.links).client;
    }
