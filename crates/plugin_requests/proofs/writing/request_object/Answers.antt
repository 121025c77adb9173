use Rattle.std.proofs.Common.{ap, ap₂, ◌∙◌}
use Rattle.std.specs.{Option.option_copied, Prelude.codes}
use Rattle.serde_json.specs.Data.{put}
use Rattle.cni_json.specs.Members.{list_data, put_if, put_object_unless_empty, text_data}
use Rattle.cni_result.specs.Results.{result_data, version_data}
use Rattle.plugin_requests.proofs.writing.request_object.Goals as goal
use Rattle.plugin_requests.specs.Request.{request_members, valid_data, valid_key}

pub returns : goal.returns
unfolding request_members
returns c =
    let atts =
    c.in_ok-put_valid.ensures
    ∙ ap (put_if (list_data valid_data) valid_key (option_copied c.args.valid)) c.in_ok-request.ensures in
    let version = c.in_ok-put.ensures.put ∙ ap (put (codes "cniVersion") (version_data c.args.list.now.version)) atts in
    let name = c.in_ok-put-2.ensures.put ∙ ap (put (codes "name") (text_data c.args.list.now.name)) version in
    let before =
    c.in_ok-put_prev.ensures ∙ ap (put_if result_data (codes "prevResult") (option_copied c.args.prev)) name in
    c.in_ok-put_object_unless_empty.ensures.put
    ∙ ap₂ (put_object_unless_empty (codes "runtimeConfig")) c.in_ok-runtime_config.ensures before
