-- The settings of a site, its next ids, menus, listings and blocks: what is let through is right, what is right comes back,
-- and what is let through is written again as it was.
use Rattle.std.proofs.Common.{◌≡◌, List, None, option_map, map, is_none, is_some, refl, ap, codes, IsTrue}
use Rattle.std.specs.Prelude.{length}
use Rattle.std.specs.List.{IsDistinct, list_all}
use Rattle.std.specs.Str.{bytes_eq}
use Rattle.serde_json.specs.Data.{Data, array}
use Rattle.content_rows.specs.Kinds.{IsId, IsAge, IsSpan, is_listing_path, is_block_path, is_text}
use Rattle.content_rows.specs.MenuTree.{has_its_parent, reaches_top}
use Rattle.content_rows.specs.ValidRow.{IsValidSite, IsValidSeq, IsValidLink, IsValidMenu, IsValidListing, IsValidBlock, is_clock, has_name, is_placed_text}
use Rattle.json_keys.specs.Fault.{ask_fault, is_wanted, entry_fault, always, row_fault, columns_of, shape_fault, members_in}
use Rattle.json_keys.specs.Order.{AllInOrder}
use Rattle.json_keys.proofs.Held.{object_fine}
use Rattle.row_kinds.specs.Look.{value_at, with_cell, list_in, items_in, items_data}
use Rattle.row_kinds.specs.Rows.{link_in, link_data, site_in, site_data, seq_in, seq_data, menu_in, menu_data, listing_in, listing_data, block_in, block_data, IsTypedBlock, IsTypedLink, IsTypedListing, IsTypedMenu, IsTypedSeq}
use Rattle.row_kinds.specs.Tables.{site_row, seq_row, menu_row, listing_row, block_row, site_keys, seq_keys, menu_keys, listing_keys, block_keys}
use Rattle.row_kinds.proofs.Codec.{Codec, Back, Between, any, ComesBack}
use Rattle.row_kinds.proofs.Keys.{zero_least, below_top, below_next, next_id, maybe_listing_path, maybe_body, maybe_name, maybe_age, maybe_span, maybe_id, names, block_paths}
use Rattle.row_kinds.proofs.Lists.{table, IsListOf, each_of, of_each, passing, of_passing, both_of, weaker, some_passes, of_some_passes, for_some, of_for_some}
use Rattle.row_kinds.proofs.Numbers.{flag, weight}
use Rattle.row_kinds.proofs.Objects.{good, keeps, rebuilt, columns_passed, held, IsHeld, IsPassed}
use Rattle.row_kinds.proofs.Strings.{line, heading, name, target, front}
use Rattle.row_kinds.proofs.WordCodecs.{block_kind, region_word_of}
use Rattle.content_rows.specs.declared.row.Link.{Link}
use Rattle.content_rows.specs.declared.row.Site.{Site}
use Rattle.content_rows.specs.declared.row.Seq.{Seq}
use Rattle.content_rows.specs.declared.row.Menu.{Menu}
use Rattle.content_rows.specs.declared.row.Listing.{Listing}
use Rattle.content_rows.specs.declared.row.Block.{Block}
use Rattle.json_keys.specs.declared.shape.Columns.TheVariants as columns
use Rattle.json_keys.specs.declared.shape.Shape.TheVariants as shape

-- what the links of a menu are together
pub record IsWholeMenu (r : Menu) : Type 0 where
  pub once : IsDistinct bytes_eq (map (λ l. l.id) r.links)
  pub parents_present : IsTrue (list_all (has_its_parent r.links) r.links)
  pub no_cycle : IsTrue (list_all (reaches_top (length r.links) r.links) r.links)
  pub shallow : IsTrue (list_all (reaches_top 9 r.links) r.links)

-- a block has an age, a name and a text exactly where its kind has them
pub record IsPairedBlock (r : Block) : Type 0 where
  pub age_paired : is_some r.age ≡ is_clock r.kind
  pub name_paired : is_some r.name ≡ has_name r.kind
  pub text_paired : is_some r.text ≡ is_placed_text r.kind

pub site_right : (d : Data) → IsHeld ask_fault is_wanted site_keys d → IsValidSite (site_in d)
site_right d p =
    let front_is = good p (codes "front") _ refl refl front in
    let name_is = good p (codes "name") _ refl refl (line 255) in
    record {
      front = front_is;
      name = name_is;
    }

pub site_back : (cell : Data) (x : Site) → IsValidSite x → ComesBack site_row site_in (with_cell cell site_data) x
site_back cell x v =
    let front_back = front.back x.front v.front in
    let name_back = (line 255).back x.name v.name in (
      object_fine ask_fault is_wanted site_row (members_in (with_cell cell site_data x)) (refl, (front_back.0, (name_back.0, tt))) refl,
      λ i. record {
        front = front_back.1 i;
        name = name_back.1 i;
      },
    )

pub site_kept : (d : Data) → IsPassed ask_fault is_wanted site_row d → with_cell (value_at (codes "cell") d) site_data (site_in d) ≡ d
site_kept d p =
    rebuilt p (codes "cell") _ refl refl (members_in (with_cell (value_at (codes "cell") d) site_data (site_in d))) refl refl (
      keeps p (codes "cell") _ refl refl any,
      (
        keeps p (codes "front") _ refl refl front,
        (keeps p (codes "name") _ refl refl (line 255), tt),
      ),
    )

pub seq_right : (d : Data) → IsHeld ask_fault is_wanted seq_keys d → IsValidSeq (seq_in d) × IsTypedSeq (seq_in d)
seq_right d p =
    let node_is = good p (codes "node") _ refl refl next_id in
    let term_is = good p (codes "term") _ refl refl next_id in
    let user_is = good p (codes "user") _ refl refl next_id in (
      record {
        node = node_is.0;
        term = term_is.0;
        user = user_is.0;
      },
      (below_next (seq_in d).node node_is.1, below_next (seq_in d).term term_is.1, below_next (seq_in d).user user_is.1),
    )

pub seq_back : (cell : Data) (x : Seq) → IsValidSeq x → IsTypedSeq x → ComesBack seq_row seq_in (with_cell cell seq_data) x
seq_back cell x v t =
    let node_back = next_id.back x.node (v.node, below_top x.node t.0) in
    let term_back = next_id.back x.term (v.term, below_top x.term t.1) in
    let user_back = next_id.back x.user (v.user, below_top x.user t.2) in (
      object_fine ask_fault is_wanted seq_row (members_in (with_cell cell seq_data x)) (refl, (node_back.0, (term_back.0, (user_back.0, tt)))) refl,
      λ i. record {
        node = node_back.1 i;
        term = term_back.1 i;
        user = user_back.1 i;
      },
    )

pub seq_kept : (d : Data) → IsPassed ask_fault is_wanted seq_row d → with_cell (value_at (codes "cell") d) seq_data (seq_in d) ≡ d
seq_kept d p =
    rebuilt p (codes "cell") _ refl refl (members_in (with_cell (value_at (codes "cell") d) seq_data (seq_in d))) refl refl (
      keeps p (codes "cell") _ refl refl any,
      (
        keeps p (codes "node") _ refl refl next_id,
        (
          keeps p (codes "term") _ refl refl next_id,
          (keeps p (codes "user") _ refl refl next_id, tt),
        ),
      ),
    )

abbrev IsGoodLink : Link → Type 0
IsGoodLink x = IsValidLink x × IsTypedLink x

link_right : (d : Data) → AllInOrder d → row_fault columns.Link d ≡ None → IsGoodLink (link_in d)
link_right d o h =
    let p = held (columns_passed columns.Link d o h) in
    let id_is = good p (codes "id") _ refl refl name in
    let parent_is = good p (codes "parent") _ refl refl maybe_name in
    let path_is = good p (codes "path") _ refl refl target in
    let title_is = good p (codes "title") _ refl refl (line 255) in
    let weight_is = good p (codes "weight") _ refl refl weight in (
      record {
        path = path_is;
        title = title_is;
        weight = weight_is;
      },
      (id_is, parent_is),
    )

link_back : (x : Link) → IsGoodLink x → Back (row_fault columns.Link) link_in link_data x
link_back x (v, t) =
    let id_back = name.back x.id t.0 in
    let parent_back = maybe_name.back x.parent t.1 in
    let path_back = target.back x.path v.path in
    let title_back = (line 255).back x.title v.title in
    let weight_back = weight.back x.weight v.weight in
    (ap (option_map (λ f. f.1)) (object_fine entry_fault always (columns_of columns.Link) (members_in (link_data x)) (id_back.0, (parent_back.0, (path_back.0, (title_back.0, (weight_back.0, tt))))) refl), λ i. record { id = id_back.1 i; parent = parent_back.1 i; path = path_back.1 i; title = title_back.1 i; weight = weight_back.1 i })

link_kept : (d : Data) → AllInOrder d → row_fault columns.Link d ≡ None → link_data (link_in d) ≡ d
link_kept d o h =
    let p = columns_passed columns.Link d o h in
    rebuilt p (codes "id") _ refl refl (members_in (link_data (link_in d))) refl refl (
      keeps p (codes "id") _ refl refl name,
      (
        keeps p (codes "parent") _ refl refl maybe_name,
        (
          keeps p (codes "path") _ refl refl target,
          (
            keeps p (codes "title") _ refl refl (line 255),
            (keeps p (codes "weight") _ refl refl weight, tt),
          ),
        ),
      ),
    )

link : Codec Link (row_fault columns.Link) link_in link_data IsGoodLink
link = record { right = link_right; back = link_back; kept = link_kept }

links : Codec (List Link) (shape_fault (shape.Table 256 columns.Link)) (λ d. list_in link_in (items_in d)) (λ xs. array (items_data link_data xs)) (IsListOf 256 IsGoodLink)
links = table 256 columns.Link link

pub menu_right : (d : Data) → IsHeld ask_fault is_wanted menu_keys d → IsWholeMenu (menu_in d) → IsValidMenu (menu_in d) × IsTypedMenu (menu_in d)
menu_right d p whole =
    let label_is = good p (codes "label") _ refl refl (line 255) in
    let links_is = good p (codes "links") _ refl refl links in (
      record {
        label = label_is;
        few_links = links_is.0;
        links = each_of IsValidLink (menu_in d).links (weaker IsGoodLink IsValidLink (λ l g. g.0) (menu_in d).links links_is.1);
        once = whole.once;
        parents_present = whole.parents_present;
        no_cycle = whole.no_cycle;
        shallow = whole.shallow;
      },
      weaker IsGoodLink IsTypedLink (λ l g. g.1) (menu_in d).links links_is.1,
    )

pub menu_back : (cell : Data) (x : Menu) → IsValidMenu x → IsTypedMenu x → ComesBack menu_row menu_in (with_cell cell menu_data) x
menu_back cell x v t =
    let label_back = (line 255).back x.label v.label in
    let links_back = links.back x.links (v.few_links, both_of IsValidLink IsTypedLink x.links (of_each IsValidLink x.links v.links) t) in (
      object_fine ask_fault is_wanted menu_row (members_in (with_cell cell menu_data x)) (refl, (label_back.0, (links_back.0, tt))) refl,
      λ i. record {
        label = label_back.1 i;
        links = links_back.1 i;
      },
    )

pub menu_kept : (d : Data) → IsPassed ask_fault is_wanted menu_row d → with_cell (value_at (codes "cell") d) menu_data (menu_in d) ≡ d
menu_kept d p =
    rebuilt p (codes "cell") _ refl refl (members_in (with_cell (value_at (codes "cell") d) menu_data (menu_in d))) refl refl (
      keeps p (codes "cell") _ refl refl any,
      (
        keeps p (codes "label") _ refl refl (line 255),
        (keeps p (codes "links") _ refl refl links, tt),
      ),
    )

pub listing_right : (d : Data) → IsHeld ask_fault is_wanted listing_keys d → is_none (listing_in d).age ≡ is_none (listing_in d).recent → IsValidListing (listing_in d) × IsTypedListing (listing_in d)
listing_right d p paired =
    let age_is = good p (codes "age") _ refl refl maybe_age in
    let path_is = good p (codes "path") _ refl refl maybe_listing_path in
    let recent_is = good p (codes "recent") _ refl refl maybe_span in
    let term_is = good p (codes "term") _ refl refl maybe_id in
    let title_is = good p (codes "title") _ refl refl (line 255) in
    let types_is = good p (codes "types") _ refl refl names in (
      record {
        age = for_some (Between 0 86400) IsAge (λ n g. g.1) (listing_in d).age age_is;
        path = some_passes is_listing_path (listing_in d).path path_is;
        recent = for_some (Between 1 31536000) IsSpan (λ n g. g) (listing_in d).recent recent_is;
        term = for_some (Between 1 4294967294) IsId (λ n g. g) (listing_in d).term term_is;
        title = title_is;
        few_types = types_is.0;
        paired = paired;
      },
      types_is.1,
    )

pub listing_back : (cell : Data) (x : Listing) → IsValidListing x → IsTypedListing x → ComesBack listing_row listing_in (with_cell cell listing_data) x
listing_back cell x v t =
    let age_back = maybe_age.back x.age (of_for_some IsAge (Between 0 86400) (λ n g. (zero_least, g)) x.age v.age) in
    let path_back = maybe_listing_path.back x.path (of_some_passes is_listing_path x.path v.path) in
    let recent_back = maybe_span.back x.recent (of_for_some IsSpan (Between 1 31536000) (λ n g. g) x.recent v.recent) in
    let term_back = maybe_id.back x.term (of_for_some IsId (Between 1 4294967294) (λ n g. g) x.term v.term) in
    let title_back = (line 255).back x.title v.title in
    let types_back = names.back x.types (v.few_types, t) in (
      object_fine ask_fault is_wanted listing_row (members_in (with_cell cell listing_data x)) (age_back.0, (refl, (path_back.0, (refl, (recent_back.0, (term_back.0, (title_back.0, (types_back.0, tt)))))))) refl,
      λ i. record {
        age = age_back.1 i;
        path = path_back.1 i;
        promoted = x.promoted;
        recent = recent_back.1 i;
        term = term_back.1 i;
        title = title_back.1 i;
        types = types_back.1 i;
      },
    )

pub listing_kept : (d : Data) → IsPassed ask_fault is_wanted listing_row d → with_cell (value_at (codes "cell") d) listing_data (listing_in d) ≡ d
listing_kept d p =
    rebuilt p (codes "cell") _ refl refl (members_in (with_cell (value_at (codes "cell") d) listing_data (listing_in d))) refl refl (
      keeps p (codes "cell") _ refl refl any,
      (
        keeps p (codes "age") _ refl refl maybe_age,
        (
          keeps p (codes "path") _ refl refl maybe_listing_path,
          (
            keeps p (codes "promoted") _ refl refl flag,
            (
              keeps p (codes "recent") _ refl refl maybe_span,
              (
                keeps p (codes "term") _ refl refl maybe_id,
                (
                  keeps p (codes "title") _ refl refl (line 255),
                  (keeps p (codes "types") _ refl refl names, tt),
                ),
              ),
            ),
          ),
        ),
      ),
    )

pub block_right : (d : Data) → IsHeld ask_fault is_wanted block_keys d → IsPairedBlock (block_in d) → IsValidBlock (block_in d) × IsTypedBlock (block_in d)
block_right d p paired =
    let age_is = good p (codes "age") _ refl refl maybe_age in
    let label_is = good p (codes "label") _ refl refl (heading 255) in
    let name_is = good p (codes "name") _ refl refl maybe_name in
    let paths_is = good p (codes "paths") _ refl refl block_paths in
    let roles_is = good p (codes "roles") _ refl refl names in
    let text_is = good p (codes "text") _ refl refl maybe_body in
    let weight_is = good p (codes "weight") _ refl refl weight in (
      record {
        age = for_some (Between 0 86400) IsAge (λ n g. g.1) (block_in d).age age_is;
        label = label_is;
        few_paths = paths_is.0;
        paths = passing is_block_path (block_in d).paths paths_is.1;
        few_roles = roles_is.0;
        text = some_passes is_text (block_in d).text text_is;
        weight = weight_is;
        age_paired = paired.age_paired;
        name_paired = paired.name_paired;
        text_paired = paired.text_paired;
      },
      (name_is, roles_is.1),
    )

pub block_back : (cell : Data) (x : Block) → IsValidBlock x → IsTypedBlock x → ComesBack block_row block_in (with_cell cell block_data) x
block_back cell x v t =
    let age_back = maybe_age.back x.age (of_for_some IsAge (Between 0 86400) (λ n g. (zero_least, g)) x.age v.age) in
    let kind_back = block_kind.back x.kind tt in
    let label_back = (heading 255).back x.label v.label in
    let name_back = maybe_name.back x.name t.0 in
    let paths_back = block_paths.back x.paths (v.few_paths, of_passing is_block_path x.paths v.paths) in
    let region_back = region_word_of.back x.region tt in
    let roles_back = names.back x.roles (v.few_roles, t.1) in
    let text_back = maybe_body.back x.text (of_some_passes is_text x.text v.text) in
    let weight_back = weight.back x.weight v.weight in (
      object_fine ask_fault is_wanted block_row (members_in (with_cell cell block_data x)) (age_back.0, (refl, (refl, (kind_back.0, (label_back.0, (name_back.0, (paths_back.0, (region_back.0, (roles_back.0, (text_back.0, (weight_back.0, tt))))))))))) refl,
      λ i. record {
        age = age_back.1 i;
        hide = x.hide;
        kind = kind_back.1 i;
        label = label_back.1 i;
        name = name_back.1 i;
        paths = paths_back.1 i;
        region = region_back.1 i;
        roles = roles_back.1 i;
        text = text_back.1 i;
        weight = weight_back.1 i;
      },
    )

pub block_kept : (d : Data) → IsPassed ask_fault is_wanted block_row d → with_cell (value_at (codes "cell") d) block_data (block_in d) ≡ d
block_kept d p =
    rebuilt p (codes "cell") _ refl refl (members_in (with_cell (value_at (codes "cell") d) block_data (block_in d))) refl refl (
      keeps p (codes "cell") _ refl refl any,
      (
        keeps p (codes "age") _ refl refl maybe_age,
        (
          keeps p (codes "hide") _ refl refl flag,
          (
            keeps p (codes "kind") _ refl refl block_kind,
            (
              keeps p (codes "label") _ refl refl (heading 255),
              (
                keeps p (codes "name") _ refl refl maybe_name,
                (
                  keeps p (codes "paths") _ refl refl block_paths,
                  (
                    keeps p (codes "region") _ refl refl region_word_of,
                    (
                      keeps p (codes "roles") _ refl refl names,
                      (
                        keeps p (codes "text") _ refl refl maybe_body,
                        (keeps p (codes "weight") _ refl refl weight, tt),
                      ),
                    ),
                  ),
                ),
              ),
            ),
          ),
        ),
      ),
    )
