use Rattle.std.proofs.Common.{ap, sym, ◌∙◌}
use Rattle.std.specs.FinMap as map
use Rattle.std.specs.Ordering.{nat_cmp}
use Rattle.span_extensions.specs.Extensions.{tag_number}
use Rattle.span_extensions.proofs.NumberMaps.{get_beside_inserted, get_beside_removed, get_inserted, get_removed}
use Rattle.span_registry.proofs.laws.tags_keep_their_values.Goals as goal

pub returns : goal.returns
returns g c =
    let own = g.met.T.ExtensionValue in
    let other_own = g.met.U.ExtensionValue in
    let values = g.T.ExtensionValue.place.values in
    record {
      first = λ tag. ap (λ t. map.get t (tag_number tag)) own.begins_empty ∙ map.get-empty nat_cmp (tag_number tag);
      written = λ m tag v. ap (λ t. map.get t (tag_number tag)) (own.values_with m _) ∙ get_inserted (values m) (tag_number tag) v;
      removed = λ m tag. ap (λ t. map.get t (tag_number tag)) (own.values_with m _) ∙ get_removed (values m) (tag_number tag);
      beside_written = λ m tag v other apart. sym (other_own.reads_own_type m _ (tag_number other)
          (own.writes_own_type m _ g.U.ExtensionValue.value_type
          (tag_number other) (λ same. sym (get_beside_inserted (values m) (tag_number tag) (tag_number other) v (λ number. apart (sym same, number))))));
      beside_removed = λ m tag other apart. sym (other_own.reads_own_type m _ (tag_number other)
          (own.writes_own_type m _ g.U.ExtensionValue.value_type
          (tag_number other) (λ same. sym (get_beside_removed (values m) (tag_number tag) (tag_number other) (λ number. apart (sym same, number))))));
    }
