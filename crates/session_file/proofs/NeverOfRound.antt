-- No part of a session file is refused for a round.
use Rattle.std.proofs.Common.{◌≡◌, ℕ, ◌+◌, false, Bool, true, List, [], ◌∷◌, ◌++◌, length, codes, Option, Some, None}
use Rattle.std.proofs.Common.{Result, Ok, Err, refl, subst}
use Rattle.std.specs.{List.list_any, Prelude.{IfErr, if◌then◌else◌, nat_le, ok_or, unwrap_or}, Result.result_map_both}
use Rattle.serde_json.specs.Data.{Data, null, boolean, number, string, array, object, Items, no_items, item, Members}
use Rattle.serde_json.specs.{Data.{no_members, member}, Events.items_len}
use Rattle.cni_json.specs.{Each.{each, each_after, each_from}, Fields.{list_field, member_at, member_or, object_or}}
use Rattle.cni_json.specs.{Fields.{text_field, u32_field, u32_of, u64_field}, Json.json_of, Outcome.{◌>>=◌, Gives}}
use Rattle.cni_json.specs.declared.fields.Field.{Field, TheVariants.{Absent, Here, WrongKind}}
use Rattle.cni_json.specs.declared.reading.ReadEnd.{ReadEnd, TheVariants.{Decode, NoMemory, Number}}
use Rattle.kernel_types.specs.{Terms.is_at, declared.object.Link.Link}
use Rattle.net_conf.specs.{Ipam.read_ipam_at, Members.{is_mtu, is_null}, Names.{is_interface_name, is_network_name}}
use Rattle.net_conf.specs.declared.{error.ConfError.ConfError, first.HostLocalConf.HostLocalConf}
use Rattle.pod_file.specs.Commands.{fault_at, fault_of, faults_at, is_call_number, stop_at, verb_at, verb_named}
use Rattle.pod_file.specs.Links.{interface_name, kind_at, kind_named, link_at, links_at, listed_at, mtu_at, mtu_of}
use Rattle.pod_file.specs.Links.{is_place, name_at, next_link, not_taken, ns_at, place_named, wrong_link}
use Rattle.pod_file.specs.Members.{inner_text_at, list_at, needed_text_at, text_at, valid_at, valid_attachment_at}
use Rattle.pod_file.specs.Opening.{is_refused_name, namespaces_at, next_namespace, opening_at, opening_members_at}
use Rattle.pod_file.specs.{Opening.opening_of, PodFile.read_or_refused, Refusals.{command_path, is_out_of_memory}}
use Rattle.pod_file.specs.{Refusals.{wrong, wrong_key}, declared.{error.PodError.PodError, place.Place.Place}}
use Rattle.pod_file.specs.declared.place.Place.TheVariants.{InTasks}
use Rattle.session_file.specs.SessionFile.{is_of_round, network_at, pools_at, pools_of, session_at, session_of}
use Rattle.session_file.specs.Tasks.{few_tasks, option_of, options_at, options_in, options_of, task_at, task_in}
use Rattle.session_file.specs.{Tasks.{task_verb_at, tasks_at}, WellFormed.{is_of_session, most_tasks}}
use Rattle.session_file.specs.declared.session.SessionConf.{SessionConf}
use Rattle.pod_file.specs.declared.error.PodError.TheVariants as refusal

abbrev pub Never : {A : Type 0} → Result A PodError → Type 0
Never r = IfErr r (λ e. is_of_round e ≡ false)

-- ---- what steps, tests and lists are made of

by_step : {A B : Type 0} (r : Result A PodError) (next : A → Result B PodError) → Never r → ((x : A) → Never (next x))
    → Never (r >>= next)
by_step (Ok x) next first rest = rest x
by_step (Err e) next first rest = first

by_if : {A : Type 0} (b : Bool) (r s : Result A PodError) → Never r → Never s → Never (if b then r else s)
by_if true r s first second = first
by_if false r s first second = second

by_field : {A B : Type 0} (absent other : Result B PodError) (read : A → Result B PodError) (f : Field A)
    → Never absent → Never other → ((x : A) → Never (read x)) → Never (member_or absent other read f)
by_field absent other read Absent none kind here = none
by_field absent other read WrongKind none kind here = kind
by_field absent other read (Here x) none kind here = here x

by_name : {A : Type 0} (o : Option A) (path : List ℕ) → Never (ok_or o (refusal.Shape path))
by_name None path = refl
by_name (Some x) path = tt

of_object : (path : List ℕ) (d : Data) → Never (object_or (wrong path) d)
of_object path null = refl
of_object path (boolean b) = refl
of_object path (number n) = refl
of_object path (string s) = refl
of_object path (array ds) = refl
of_object path (object ms) = tt

of_each : {A : Type 0} (read : Data → Result A PodError) → ((d : Data) → Never (read d)) → (ds : Items)
    → Never (each read ds)
of_each read one no_items = tt
of_each read one (item d ds) =
    by_step (read d) _ (one d) (λ x. by_step (each read ds) _ (of_each read one ds) (λ xs. tt))

of_each_from : {A : Type 0} (read : ℕ → Data → Result A PodError) → ((place : ℕ) (d : Data) → Never (read place d))
    → (place : ℕ) (ds : Items) → Never (each_from read place ds)
of_each_from read one place no_items = tt
of_each_from read one place (item d ds) =
    by_step (read place d) _ (one place d)
    (λ x. by_step (each_from read (place + 1) ds) _ (of_each_from read one (place + 1) ds) (λ xs. tt))

of_each_after : {A : Type 0} (read : List A → Data → Result A PodError)
    → ((before : List A) (d : Data) → Never (read before d)) → (before : List A) (ds : Items)
    → Never (each_after read before ds)
of_each_after read one before no_items = tt
of_each_after read one before (item d ds) =
    by_step (read before d) _ (one before d) (λ x. of_each_after read one (before ++ x ∷ []) ds)

-- ---- the opening

of_listed : {A : Type 0} (path key : List ℕ) (read : List A → Data → Result A PodError)
    → ((before : List A) (d : Data) → Never (read before d)) → (d : Data) → Never (listed_at path key read d)
unfolding listed_at
of_listed path key read one d =
    by_field (Ok []) (wrong path) (each_after read []) (list_field key d) tt refl (of_each_after read one [])

of_namespace : (before : List (List ℕ)) (d : Data) → Never (next_namespace before d)
of_namespace before null = refl
of_namespace before (boolean b) = refl
of_namespace before (number n) = refl
of_namespace before (string name) = by_if (is_refused_name before name) _ _ refl tt
of_namespace before (array ds) = refl
of_namespace before (object ms) = refl

of_link : (names : List (List ℕ)) (before : List Link) (d : Data) → Never (next_link names before d)
unfolding link_at name_at kind_at ns_at mtu_at not_taken
of_link names before d =
    let index = length before in
    by_step (object_or (wrong_link index) d) _ (of_object _ d) (λ _.
    by_step (name_at index d) _ (by_field _ _ (interface_name index) (text_field (codes "name") d) refl refl
    (λ text. by_if (is_interface_name text) _ _ tt refl)) (λ name.
    by_step (kind_at index d) _
    (by_field _ _ _ (text_field (codes "kind") d) refl refl (λ text. by_name (kind_named text) _)) (λ kind.
    by_step (ns_at names index d) _ (by_field _ _ (place_named names index) (text_field (codes "ns") d) tt refl
    (λ text. by_if (is_place names text) _ _ tt refl)) (λ ns.
    by_step (mtu_at index d) _
    (by_field _ _ (mtu_of index) (u64_field (codes "mtu") d) tt refl (λ n. by_if (is_mtu n) _ _ tt refl)) (λ mtu.
    by_step (not_taken before index ns name) _ (by_if (list_any (is_at ns name) before) _ _ refl tt) (λ _. tt))))))

of_opening : (d : Data) → Never (opening_of d)
unfolding opening_of opening_members_at namespaces_at links_at
of_opening null = tt
of_opening (boolean b) = refl
of_opening (number n) = refl
of_opening (string s) = refl
of_opening (array ds) = refl
of_opening (object ms) =
    by_step (namespaces_at (object ms)) _ (of_listed _ _ next_namespace of_namespace (object ms)) (λ names.
    by_step (links_at names (object ms)) _ (of_listed _ _ (next_link names) (of_link names) (object ms)) (λ links. tt))

-- ---- tasks

of_text : (place : Place) (key default : List ℕ) (d : Data) → Never (text_at place key default d)
unfolding inner_text_at
of_text place key default d = by_field (Ok default) (wrong_key place key) Ok (text_field key d) tt refl (λ text. tt)

of_needed_text : (place : Place) (outer key : List ℕ) (d : Data) → Never (needed_text_at place outer key d)
unfolding needed_text_at
of_needed_text place outer key d =
    by_field (wrong_key place outer) (wrong_key place outer) Ok (text_field key d) refl refl (λ text. tt)

of_list : {A : Type 0} (place : Place) (key : List ℕ) (read : Data → Result A PodError)
    → ((d : Data) → Never (read d)) → (d : Data) → Never (list_at place key read d)
unfolding list_at
of_list place key read one d =
    by_field (Ok []) (wrong_key place key) (each read) (list_field key d) tt refl (of_each read one)

of_valid : (place : Place) (d : Data) → Never (valid_at place d)
unfolding valid_at valid_attachment_at
of_valid place d =
    of_list place (codes "valid") (valid_attachment_at place) (λ e.
    by_step (needed_text_at place (codes "valid") (codes "containerID") e) _ (of_needed_text place _ _ e) (λ container.
    by_step (needed_text_at place (codes "valid") (codes "ifname") e) _ (of_needed_text place _ _ e) (λ ifname. tt))) d

of_fault : (place : Place) (o : Option ℕ) → Never (fault_of place o)
of_fault place None = refl
of_fault place (Some n) = by_if (is_call_number n) _ _ tt refl

of_faults : (place : Place) (d : Data) → Never (faults_at place d)
unfolding faults_at
of_faults place d = of_list place (codes "faults") (fault_at place) (λ e. of_fault place (u32_of e)) d

of_option : (place : Place) (key : List ℕ) (d : Data) → Never (option_of place key d)
of_option place key null = refl
of_option place key (boolean b) = refl
of_option place key (number n) = refl
of_option place key (string value) = tt
of_option place key (array ds) = refl
of_option place key (object ms) = refl

of_options : (place : Place) (ms : Members) → Never (options_of place ms)
of_options place no_members = tt
of_options place (member key d ms) =
    by_if (is_null d) _ _ (of_options place ms)
    (by_step (option_of place key d) _ (of_option place key d)
    (λ first. by_step (options_of place ms) _ (of_options place ms) (λ rest. tt)))

of_options_in : (place : Place) (o : Option Data) → Never (options_in place o)
of_options_in place None = tt
of_options_in place (Some null) = refl
of_options_in place (Some (boolean b)) = refl
of_options_in place (Some (number n)) = refl
of_options_in place (Some (string s)) = refl
of_options_in place (Some (array ds)) = refl
of_options_in place (Some (object ms)) = of_options place ms

of_verb : (place : Place) (d : Data) → Never (task_verb_at place d)
unfolding task_verb_at verb_at
of_verb place d =
    by_step (verb_at place d) _
    (by_field _ _ _ (text_field (codes "verb") d) refl refl (λ text. by_name (verb_named text) _))
    (λ verb. by_if (is_of_session verb) _ _ tt refl)

of_task : (place : Place) (d : Data) → Never (task_at place d)
unfolding task_at options_at stop_at
of_task place d =
    by_step (object_or (wrong (command_path place)) d) _ (of_object _ d) (λ _.
    by_step (task_verb_at place d) _ (of_verb place d) (λ verb.
    by_step (text_at place (codes "type") [] d) _ (of_text place _ _ d) (λ kind.
    by_step (text_at place (codes "container") [] d) _ (of_text place _ _ d) (λ container.
    by_step (text_at place (codes "netns") [] d) _ (of_text place _ _ d) (λ netns.
    by_step (text_at place (codes "ifname") (codes "eth0") d) _ (of_text place _ _ d) (λ ifname.
    by_step (options_at place d) _ (of_options_in place (member_at (codes "options") d)) (λ options.
    by_step (valid_at place d) _ (of_valid place d) (λ valid.
    by_step (stop_at place d) _ (by_field _ _ _ (u32_field (codes "stop") d) tt refl (λ n. tt)) (λ stop.
    by_step (faults_at place d) _ (of_faults place d) (λ faults. tt))))))))))

of_tasks : (d : Data) → Never (tasks_at d)
unfolding tasks_at
of_tasks d =
    by_field (wrong (codes "tasks")) (wrong (codes "tasks")) few_tasks (list_field (codes "tasks") d) refl refl (λ ds.
    by_if (nat_le (items_len ds) most_tasks) _ _ (of_each_from task_in (λ index e. of_task (InTasks index) e) 0 ds)
    refl)

-- ---- the file

of_read : (r : Result Data ReadEnd) → Never (read_or_refused r)
of_read (Ok d) = tt
of_read (Err Decode) = refl
of_read (Err Number) = refl
of_read (Err NoMemory) = refl

of_pools : (r : Result (Option HostLocalConf) ConfError)
    → Never (result_map_both (λ (p : Option HostLocalConf). p) (λ _. refusal.Shape (codes "ipam")) r)
of_pools (Ok pools) = tt
of_pools (Err refused) = refl

of_session : (d : Data) → Never (session_at d)
unfolding session_at network_at pools_at pools_of opening_at
of_session d =
    by_step (object_or (wrong []) d) _ (of_object [] d) (λ _.
    by_step (network_at d) _
    (by_field _ _ _ (text_field (codes "network") d) refl refl (λ text. by_if (is_network_name text) _ _ tt refl))
    (λ network.
    by_step (pools_at d) _ (of_pools (read_ipam_at (unwrap_or (member_at (codes "ipam") d) null))) (λ pools.
    by_step (opening_at d) _ (of_opening (unwrap_or (member_at (codes "opening") d) null)) (λ opening.
    by_step (tasks_at d) _ (of_tasks d) (λ tasks. tt)))))

-- no session file is refused for a round
pub session_of-never : (bytes : List ℕ) → Never (session_of bytes)
unfolding session_of
session_of-never bytes = by_step (read_or_refused (json_of bytes)) _ (of_read (json_of bytes)) of_session

-- nor is an outcome, where the defined one isn't
pub never_by : (r wanted : Result SessionConf PodError) → Gives is_out_of_memory r wanted → Never wanted → Never r
never_by (Ok conf) wanted gives never = tt
never_by (Err refusal.Decode) wanted gives never = refl
never_by (Err refusal.Number) wanted gives never = refl
never_by (Err (refusal.Shape path)) wanted gives never = refl
never_by (Err (refusal.Alone round)) wanted gives never = subst Never gives never
never_by (Err refusal.NoMemory) wanted gives never = refl
