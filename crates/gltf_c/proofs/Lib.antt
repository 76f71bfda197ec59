mod Findings
mod Statuses
