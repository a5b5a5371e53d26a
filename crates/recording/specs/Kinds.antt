-- The kinds of recorded calls by their numbers, those that a definition tells apart (crates/replay/README.md, "The file").
use Rattle.std.specs.Prelude.{ℕ}

abbrev pub build : ℕ
build = 0

abbrev pub change_host_visibility : ℕ
change_host_visibility = 1

abbrev pub change_vtl_protections : ℕ
change_vtl_protections = 2

abbrev pub change_default_vtl_protections : ℕ
change_default_vtl_protections = 3

abbrev pub register_overlay_page : ℕ
register_overlay_page = 4

abbrev pub lock_gpns : ℕ
lock_gpns = 6

abbrev pub unlock_gpns : ℕ
unlock_gpns = 7

abbrev pub set_vtl1_protections_enabled : ℕ
set_vtl1_protections_enabled = 8

abbrev pub vtl1_protections_enabled : ℕ
vtl1_protections_enabled = 9

abbrev pub is_overlay_page : ℕ
is_overlay_page = 11

abbrev pub query_host_visibility : ℕ
query_host_visibility = 12

abbrev pub page_fault : ℕ
page_fault = 13

abbrev pub query_lower_vtl_permissions : ℕ
query_lower_vtl_permissions = 14

abbrev pub registrar_build : ℕ
registrar_build = 16

abbrev pub register : ℕ
register = 17
