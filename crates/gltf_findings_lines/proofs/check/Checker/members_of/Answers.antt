-- Bytes that a document was read from, or another value, are JSON.
use Rattle.std.proofs.Common.{◌≡◌, Ok, Err, arith}
use Rattle.gltf_base.specs.declared.error.Error.TheVariants.{Json, Schema}
use Rattle.gltf_findings_lines.specs.Members.{held_in}
use Rattle.gltf_findings_lines.proofs.Answered.{json_of_root, json_of_schema, members_by_json, members_of_refused}
use Rattle.gltf_findings_lines.proofs.check.Checker.members_of.Goals as goal

pub members_in-requires : goal.members_in-requires
members_in-requires c =
    let is : c.args.read.now ≡ Ok c.in-Ok._root = grind arith in
    json_of_root c.args.json.now c.args.read.now c.in-Ok._root c.requires is

pub members_in-requires-in-Err-Schema : goal.members_in-requires-in-Err-Schema
members_in-requires-in-Err-Schema c =
    let is : c.args.read.now ≡ Err Schema = grind arith in
    json_of_schema c.args.json.now c.args.read.now c.requires is

pub returns-in_ok-found-in-Ok : goal.returns-in_ok-found-in-Ok
returns-in_ok-found-in-Ok c =
    let is : c.args.read.now ≡ Ok c.in-Ok._root = grind arith in
    members_by_json c.args.self.now.outline c.args.json.now (held_in c.in_ok-found-in-Ok.found) (json_of_root c.args.json.now c.args.read.now c.in-Ok._root c.requires is) c.in_ok-found-in-Ok.ensures

pub returns-in_ok-found-in-Err-Schema : goal.returns-in_ok-found-in-Err-Schema
returns-in_ok-found-in-Err-Schema c =
    let is : c.args.read.now ≡ Err Schema = grind arith in
    members_by_json c.args.self.now.outline c.args.json.now (held_in c.in_ok-found-in-Err-Schema.found) (json_of_schema c.args.json.now c.args.read.now c.requires is) c.in_ok-found-in-Err-Schema.ensures

pub returns-in-Err-Json : goal.returns-in-Err-Json
returns-in-Err-Json c =
    let is : c.args.read.now ≡ Err Json = grind arith in
    members_of_refused c.args.self.now.outline c.args.json.now c.args.read.now c.requires is
