-- Defines a binary trie over the bits of thread numbers, from the lowest bit (own).
use Rattle.std.specs.Prelude.{◌≡◌, ◌≢◌, ℕ, zero, suc, ◌<◌, ◌≤◌, ◌==◌, ◌%◌, ◌/◌, Bool, if◌then◌else◌, ◌⊎◌, List, map, set, length, get_or}
use Rattle.accesses.specs.declared.lasts.Noted.{Noted}
use Rattle.accesses.specs.declared.by_thread.Node.{Node}
use Rattle.accesses.specs.declared.by_thread.Search.{Search}
use Rattle.accesses.specs.declared.by_thread.Search.TheVariants as search

abbrev pub no_node : Node
no_node = record { noted = record { number = 0; transaction = 0; thread = 0 }; even = 0; odd = 0 }

abbrev pub node_in : List Node → ℕ → Node
node_in ns i = get_or ns i no_node

abbrev pub thread_in : List Node → ℕ → ℕ
thread_in ns i = (node_in ns i).noted.thread

abbrev pub notes_of : List Node → List Noted
notes_of ns = map (λ (n : Node). n.noted) ns

abbrev pub next_of : Node → Bool → ℕ
next_of n is_odd = if is_odd then n.odd else n.even

-- Decides whether the lowest bit of the number is 1.
abbrev pub is_odd : ℕ → Bool
is_odd bits = bits % 2 == 1

-- In n steps from a node along these bits the node of thread t is reached. Every node before it is of another thread.
abbrev pub Leads : List Node → ℕ → ℕ → ℕ → ℕ → ℕ → Type 0
Leads ns t zero at bits i = (at ≡ i) × (at < length ns) × (thread_in ns at ≡ t)
Leads ns t (suc n) at bits i =
    (at < length ns) × (thread_in ns at ≢ t) × (at < next_of (node_in ns at) (is_odd bits)) × Leads ns t n (next_of (node_in ns at) (is_odd bits)) (bits / 2) i

-- Each node is reached from the first one along the bits of its thread.
abbrev pub AreFound : List Node → Type 0
AreFound ns = (i : ℕ) → i < length ns → (n : ℕ) × Leads ns (thread_in ns i) n 0 (thread_in ns i) i

-- Nodes were appended, and links to them. Other links are unchanged.
pub record Extends (ns ms : List Node) : Type 0 where
  pub long : length ns ≤ length ms
  pub threads : (i : ℕ) → i < length ns → thread_in ms i ≡ thread_in ns i
  pub links : (i : ℕ) (b : Bool) → i < length ns → i < next_of (node_in ns i) b → next_of (node_in ns i) b < length ns → next_of (node_in ms i) b ≡ next_of (node_in ns i) b

-- The bits of thread t lead from the first node to this one, with these bits left.
abbrev pub IsWay : List Node → ℕ → ℕ → ℕ → Type 0
IsWay ns t at bits = (ms : List Node) → Extends ns ms → (n i : ℕ) → Leads ms t n at bits i → (m : ℕ) × Leads ms t m 0 t i

-- Thread t has no node, and the search for it ends at a node that none follows on this side.
pub record IsEnd (ns : List Node) (t index : ℕ) (side : Bool) : Type 0 where
  pub bits : ℕ
  pub absent : (i : ℕ) → i < length ns → thread_in ns i ≢ t
  pub inside : (index < length ns) ⊎ (length ns ≡ 0)
  pub side_is : index < length ns → side ≡ is_odd bits
  pub free : index < length ns → (next_of (node_in ns index) side ≤ index) ⊎ (length ns ≤ next_of (node_in ns index) side)
  pub way : index < length ns → IsWay ns t index bits

abbrev pub IsSearched : List Node → ℕ → Search → Type 0
IsSearched ns t (search.At i) = (i < length ns) × (thread_in ns i ≡ t)
IsSearched ns t (search.Behind index side) = IsEnd ns t index side

abbrev pub with_next : Node → Bool → ℕ → Node
with_next n side next = record { noted = n.noted; even = if side then n.even else next; odd = if side then next else n.odd }

-- Returns the nodes with the next node of one changed on a side.
abbrev pub linked_in : List Node → ℕ → Bool → ℕ → List Node
linked_in ns i side next = set ns i (with_next (node_in ns i) side next)
